-- Bytes taken apart at a byte.
use Rattle.std.specs.Prelude.{ℕ, cond, List, [], ◌∷◌, Some, None, Option, ◌==◌}

-- a byte put before the first part
abbrev pub onto : ℕ → List (List ℕ) → List (List ℕ)
onto b [] = (b ∷ []) ∷ []
onto b (part ∷ parts) = (b ∷ part) ∷ parts

-- the parts between the bytes c: one more than there are bytes c
abbrev pub parted : ℕ → List ℕ → List (List ℕ)
parted c [] = [] ∷ []
parted c (b ∷ bs) = cond (b == c) ([] ∷ parted c bs) (onto b (parted c bs))

-- three parts in turn
pub record Three : Type 0 where
  pub first : List ℕ
  pub second : List ℕ
  pub third : List ℕ

-- parts of which there are three, no fewer and no more
abbrev pub just_three : List (List ℕ) → Option Three
just_three [] = None
just_three (a ∷ []) = None
just_three (a ∷ b ∷ []) = None
just_three (a ∷ b ∷ c ∷ []) = Some (record { first = a; second = b; third = c })
just_three (a ∷ b ∷ c ∷ d ∷ more) = None

-- three words, parted by commas
abbrev pub three_words : List ℕ → Option Three
three_words bytes = just_three (parted 44 bytes)
