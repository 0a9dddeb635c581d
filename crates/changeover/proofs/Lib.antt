-- Bounds of every answer, so that it can be packed.
mod Laws
mod Bounds
