-- Worked examples of the definitions, computed: what the numbers of a mask's elements are, and what happens past an end.
-- For a reader of specs/, and so that a change of a definition is seen. Uses specs/ alone.
use mathlib.Core.Bool.{true}
use mathlib.Core.List.{[], ◌∷◌}
use mathlib.Core.Path.{◌≡◌, refl}
use Prim.Native.Nat.{◌%◌}
use lib.Count.{ones}
use lib.Dec.{eqb}
use Rattle.mask.specs.Bits.{bit_of, without, test_bit, set_bit, clear_bit, flip_bit}
use Rattle.mask.specs.Sets.{bytewise, intersection, union, difference, empty, cardinality, mask_of}

-- 10 is bit 2 of byte 1
ten_in : set_bit (empty 2) 10 ≡ 0 ∷ 4 ∷ []
unfolding set_bit empty
ten_in = refl

ten_found : test_bit (0 ∷ 4 ∷ []) 10 ≡ true
unfolding test_bit bit_of
ten_found = refl

ten_out : clear_bit (255 ∷ 255 ∷ []) 10 ≡ 255 ∷ 251 ∷ []
unfolding clear_bit without
ten_out = refl

ten_flipped : flip_bit (0 ∷ 4 ∷ []) 10 ≡ 0 ∷ 0 ∷ []
unfolding flip_bit
ten_flipped = refl

past_the_end : set_bit (1 ∷ 2 ∷ []) 16 ≡ 1 ∷ 2 ∷ []
unfolding set_bit
past_the_end = refl

-- the result is as long as the first mask
union_of_unequal : union (1 ∷ 2 ∷ []) (4 ∷ []) ≡ 5 ∷ 2 ∷ []
unfolding union bytewise
union_of_unequal = refl

intersection_of_unequal : intersection (7 ∷ []) (6 ∷ 255 ∷ []) ≡ 6 ∷ []
unfolding intersection bytewise
intersection_of_unequal = refl

difference_of_two : difference (7 ∷ 255 ∷ []) (2 ∷ 15 ∷ []) ≡ 5 ∷ 240 ∷ []
unfolding difference bytewise without
difference_of_two = refl

multiples_of_three : mask_of 3 (λ n. eqb (n % 3) 0) ≡ 73 ∷ 146 ∷ 36 ∷ []
unfolding mask_of
multiples_of_three = refl

-- 0, 3, .., 4095
cardinality_of_multiples : cardinality (mask_of 512 (λ n. eqb (n % 3) 0)) ≡ 1366
unfolding mask_of cardinality ones
cardinality_of_multiples = refl
