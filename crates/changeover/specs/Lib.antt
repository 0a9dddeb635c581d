-- What each call for C promises: number, place and every lent byte afterwards.
pub mod Calls
