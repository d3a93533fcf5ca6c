-- A division by a width, made a multiplication by a number that is found once.
use Rattle.std.proofs.Common.{◌≡◌, ℕ, ◌+◌, ◌-◌, ◌*◌, ◌/◌, ◌%◌, ◌<◌, ◌≤◌, sym, ap, ◌∙◌, le_refl, mul_assoc, mul_comm, add-mul, one-mul, mul-one, mul-add, arith}
use Rattle.std.proofs.lemmas.Nat.{div-add-mod', div-mul-add, mod_below, mul-le, le-div}

-- q rows of w places and r more, times a + 1, where w goes a times into the unit M and leaves b
times_inverse : (q r w a b M : ℕ) → a * w + b ≡ M → (q * w + r) * (a + 1) + q * b ≡ q * M + (q * w + r * (a + 1))
times_inverse q r w a b M e =
    let u : (q * w + r) * (a + 1) ≡ q * w * (a + 1) + r * (a + 1) = add-mul (q * w) r (a + 1) in
    let v : q * w * (a + 1) ≡ q * w * a + q * w = mul-add (q * w) a 1 ∙ ap (λ (n : ℕ). q * w * a + n) (mul-one (q * w)) in
    let x : q * w * a ≡ q * (a * w) = mul_assoc q w a ∙ ap (λ (n : ℕ). q * n) (mul_comm w a) in
    let y : q * M ≡ q * (a * w) + q * b = ap (λ (n : ℕ). q * n) (sym e) ∙ mul-add q (a * w) b in
    omega arith

-- the row of a place, where the unit is 2 ^ 32
pub row_found : (p w : ℕ) → 1 ≤ w → w ≤ 1024 → p < 1048576 → p * (4294967296 / w + 1) / 4294967296 ≡ p / w
row_found p w low high small =
    let q : ℕ = p / w in
    let r : ℕ = p % w in
    let a : ℕ = 4294967296 / w in
    let b : ℕ = 4294967296 % w in
    whole p w q r a b small high (div-add-mod' p w) (div-add-mod' 4294967296 w) (mod_below p w low) (mod_below 4294967296 w low) (le-div 4194304 4294967296 w low (omega arith))
  where
    sum : (n k m x : ℕ) → n + k ≡ m + x → k ≤ x → n ≡ m + (x - k)
    sum n k m x e l = omega arith

    whole : (p w q r a b : ℕ) → p < 1048576 → w ≤ 1024 → q * w + r ≡ p → a * w + b ≡ 4294967296 → r < w → b < w → 4194304 ≤ a → p * (a + 1) / 4294967296 ≡ q
    whole p w q r a b small high place unit column rest great =
        let out : (q * w + r) * (a + 1) + q * b ≡ q * 4294967296 + (q * w + r * (a + 1)) = times_inverse q r w a b 4294967296 unit in
        let same : (q * w + r) * (a + 1) ≡ p * (a + 1) = ap (λ (n : ℕ). n * (a + 1)) place in
        let left : q * b ≤ q * w = mul-le q b q w (le_refl q) (omega arith) in
        let last : (r + 1) * (a + 1) ≤ w * (a + 1) = mul-le (r + 1) (a + 1) w (a + 1) (omega arith) (le_refl (a + 1)) in
        let last' : (r + 1) * (a + 1) ≡ r * (a + 1) + (a + 1) = add-mul r 1 (a + 1) ∙ ap (λ (n : ℕ). r * (a + 1) + n) (one-mul (a + 1)) in
        let most : w * (a + 1) ≡ a * w + w = mul-add w a 1 ∙ (λ k. mul_comm w a k + mul-one w k) in
        let X : ℕ = q * w + r * (a + 1) - q * b in
        let fits : X < 4294967296 = omega arith in
        ap (λ (n : ℕ). n / 4294967296) (sum (p * (a + 1)) (q * b) (q * 4294967296) (q * w + r * (a + 1)) (omega arith) (omega arith)) ∙ div-mul-add q 4294967296 X fits
