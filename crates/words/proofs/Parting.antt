-- How bytes part at their first byte c.
use Rattle.std.proofs.Common.{◌≡◌, ℕ, ◌+◌, ◌<◌, ◌≤◌, Bool, true, false, cond, eqb, List, [], ◌∷◌, ◌++◌, length, take, drop, position, Some, None, ◌==◌, not, one-add, subst, sym, refl, ap, ◌∙◌, add-one, arith, eqb-true}
use Rattle.std.specs.List.{position_or_len}
use Rattle.std.proofs.lemmas.List.{length-append}
use Rattle.std.proofs.lemmas.Bool.Decides.{nat_tests}
use Rattle.words.specs.Parts.{onto, parted, just_three, three_words}

-- the first place of c, or the length
abbrev place : ℕ → List ℕ → ℕ
place c s = position_or_len (λ b. b == c) s

parts_by : (found : Bool) (c b : ℕ) (s : List ℕ) → (place c s < length s → parted c s ≡ take (place c s) s ∷ parted c (drop (place c s + 1) s)) → let n = cond (not found) (1 + place c s) 0 in n < length (b ∷ s) → cond found ([] ∷ parted c s) (onto b (parted c s)) ≡ take n (b ∷ s) ∷ parted c (drop (n + 1) (b ∷ s))
parts_by true c b s more h = refl
parts_by false c b s more h = rw (one-add, add-one) (ap (onto b) (rw add-one at (more (omega arith))))

parts_first : (c : ℕ) (s : List ℕ) → place c s < length s → parted c s ≡ take (place c s) s ∷ parted c (drop (place c s + 1) s)
parts_first c [] h = absurd (omega arith)
parts_first c (b ∷ s) h = parts_by (b == c) c b s (parts_first c s) h

whole_by : (found : Bool) (c b : ℕ) (s : List ℕ) → (length s ≤ place c s → parted c s ≡ s ∷ []) → length (b ∷ s) ≤ cond (not found) (1 + place c s) 0 → cond found ([] ∷ parted c s) (onto b (parted c s)) ≡ (b ∷ s) ∷ []
whole_by true c b s more h = absurd (omega arith)
whole_by false c b s more h = ap (onto b) (more (omega arith))

parts_whole : (c : ℕ) (s : List ℕ) → length s ≤ place c s → parted c s ≡ s ∷ []
parts_whole c [] h = refl
parts_whole c (b ∷ s) h = whole_by (b == c) c b s (parts_whole c s) h

-- what `position` gives
pub parts_at : (c : ℕ) (s : List ℕ) (i : ℕ) → position (λ b. b == c) s ≡ Some i → parted c s ≡ take i s ∷ parted c (drop (i + 1) s)
parts_at c s i e =
    let first : (place c s < length s) × (place c s ≡ i) = grind (arith, nat_tests) in
    subst (λ i. parted c s ≡ take i s ∷ parted c (drop (i + 1) s)) first.1 (parts_first c s first.0)

pub parts_nowhere : (c : ℕ) (s : List ℕ) → position (λ b. b == c) s ≡ None → parted c s ≡ s ∷ []
parts_nowhere c s e =
    let past : length s ≤ place c s = grind (arith, nat_tests) in parts_whole c s past

-- there is always a part
some_onto : (b : ℕ) (parts : List (List ℕ)) → (p : List ℕ) × (ps : List (List ℕ)) × (onto b parts ≡ p ∷ ps)
some_onto b [] = (b ∷ [], [], refl)
some_onto b (p ∷ ps) = (b ∷ p, ps, refl)

some_by : (t : Bool) (s : List ℕ) (b : ℕ) (parts : List (List ℕ)) → (p : List ℕ) × (ps : List (List ℕ)) × (cond t ([] ∷ parts) (onto b parts) ≡ p ∷ ps)
some_by true s b parts = ([], parts, refl)
some_by false s b parts = some_onto b parts

pub some_part : (c : ℕ) (s : List ℕ) → (p : List ℕ) × (ps : List (List ℕ)) × (parted c s ≡ p ∷ ps)
some_part c [] = ([], [], refl)
some_part c (b ∷ s) = some_by (eqb b c) s b (parted c s)

-- three commas are one too many
pub four_parts : (s a r b t x y : List ℕ) → parted 44 s ≡ a ∷ parted 44 r → parted 44 r ≡ b ∷ parted 44 t → parted 44 t ≡ x ∷ parted 44 y → three_words s ≡ None
four_parts s a r b t x y p q e =
    let z = some_part 44 y in
    ap just_three (p ∙ ap (λ ps. a ∷ ps) (q ∙ ap (λ ps. b ∷ ps) (e ∙ ap (λ ps. x ∷ ps) z.2)))

-- the parts with c between them are the whole
abbrev pub joined_by : ℕ → List (List ℕ) → List ℕ
joined_by c [] = []
joined_by c (part ∷ []) = part
joined_by c (part ∷ next ∷ parts) = part ++ c ∷ joined_by c (next ∷ parts)

joined_onto : (c b : ℕ) (parts : List (List ℕ)) → joined_by c (onto b parts) ≡ b ∷ joined_by c parts
joined_onto c b [] = refl
joined_onto c b (part ∷ []) = refl
joined_onto c b (part ∷ next ∷ parts) = refl

joined_first : (c : ℕ) (a s : List ℕ) → joined_by c (a ∷ parted c s) ≡ a ++ c ∷ joined_by c (parted c s)
joined_first c a s =
    let z = some_part c s in
    ap (λ ps. joined_by c (a ∷ ps)) z.2 ∙ sym (ap (λ ps. a ++ c ∷ joined_by c ps) z.2)

rejoined_at : (t : Bool) (c b : ℕ) (s : List ℕ) → eqb b c ≡ t → joined_by c (parted c s) ≡ s → joined_by c (cond t ([] ∷ parted c s) (onto b (parted c s))) ≡ b ∷ s
rejoined_at true c b s is whole = joined_first c [] s ∙ ap (λ l. c ∷ l) whole ∙ ap (λ x. x ∷ s) (sym (eqb-true b c is))
rejoined_at false c b s is whole = joined_onto c b (parted c s) ∙ ap (λ l. b ∷ l) whole

pub rejoined : (c : ℕ) (s : List ℕ) → joined_by c (parted c s) ≡ s
rejoined c [] = refl
rejoined c (b ∷ s) = rejoined_at (eqb b c) c b s refl (rejoined c s)

-- so the first part, c and the rest make up the whole
whole_from_parts : (c : ℕ) (s a rest : List ℕ) → parted c s ≡ a ∷ parted c rest → s ≡ a ++ c ∷ rest
whole_from_parts c s a rest e =
    sym (rejoined c s) ∙ ap (joined_by c) e ∙ joined_first c a rest ∙ ap (λ l. a ++ c ∷ l) (rejoined c rest)

pub rest_shorter : (c : ℕ) (s a rest : List ℕ) → parted c s ≡ a ∷ parted c rest → length rest < length s
rest_shorter c s a rest e = omega (arith, simp length-append at (ap length (whole_from_parts c s a rest e)))
