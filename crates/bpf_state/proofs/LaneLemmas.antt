-- Vectors, lane by lane.
use Rattle.std.proofs.Common.{◌≡◌, ℕ, zero, suc, ◌<◌, ◌%◌, ◌^◌, ◌-◌, ◌↔◌, Bool, true, false, not, cond, eqb, List, [], ◌∷◌, map, length, get_or, replicate, bit_and, refl, sym, ap, ◌∙◌, inl, inr, arith, eqb-true, eq-eqb}
use Rattle.std.proofs.lemmas.Bool.{cases_lt, eqb-false}
use Rattle.std.proofs.lemmas.List.{length-map, get_or_past}
use Rattle.std.proofs.lemmas.Simd.{length-zip2, mask_l-mod, get_or-zip2}
use lib.Lanes.{zip2, mask_l, top}

mask_small : (f : ℕ → ℕ → ℕ) (xs ys : List ℕ) → length xs ≡ 64 → length ys ≡ 64 → mask_l (map (top 7) (zip2 f xs ys)) % 2 ^ 64 ≡ mask_l (map (top 7) (zip2 f xs ys))
mask_small f xs ys p q = mask_l-mod _ 64 (omega (arith, length-map (zip2 f xs ys) (top 7), length-zip2 f xs ys (p ∙ sym q)))

abbrev pub differs : ℕ → ℕ → ℕ
differs a b = cond (not (eqb a b)) 255 0

flag : (x : ℕ) → (◌≡◌ {A = ℕ} (cond (top 7 (differs x 0)) 1 0) 0) ↔ (x ≡ 0)
flag x = go (eqb x 0) refl
  where
    go : (t : Bool) → eqb x 0 ≡ t → (◌≡◌ {A = ℕ} (cond (top 7 (cond (not t) 255 0)) 1 0) 0) ↔ (x ≡ 0)
    go true e = (λ _. eqb-true _ _ e, λ _. refl)
    go false e = (λ q. absurd (omega arith), λ z. absurd (eqb-false _ _ e z))

none_differ : (xs : List ℕ) → (mask_l (map (top 7) (zip2 differs xs (replicate (length xs) 0))) ≡ 0) ↔ ((i : ℕ) → get_or xs i 0 ≡ 0)
none_differ [] = (λ _ i. refl, λ _. refl)
none_differ (x ∷ xs) =
    let r = none_differ xs in
    (λ e. elim [ zero ↦ (flag x).0 (omega arith) | suc i ↦ r.0 (omega arith) i ], λ h. omega (arith, (flag x).1 (h 0), r.1 (λ i. h (suc i))))

pub zero_of_mask : (xs : List ℕ) → length xs ≡ 64 → (eqb (mask_l (map (top 7) (zip2 differs xs (replicate 64 0))) % 2 ^ 64) 0 ≡ true) ↔ ((i : ℕ) → i < 64 → get_or xs i 0 ≡ 0)
zero_of_mask xs long =
    let e = mask_small differs xs (replicate 64 0) long refl ∙ ap (λ n. mask_l (map (top 7) (zip2 differs xs (replicate n 0)))) (sym long) in
    (λ t i lt. (none_differ xs).0 (sym e ∙ eqb-true _ _ t) i, λ z. eq-eqb _ _ (e ∙ (none_differ xs).1 (λ i. elim (cases_lt i 64) [ inl l ↦ z i l | inr g ↦ get_or_past xs i 0 (omega arith) ])))

pub lacks : (ws hs : List ℕ) → zip2 bit_and ws (map (λ h. 255 - h) hs) ≡ zip2 (λ w h. bit_and w (255 - h)) ws hs
lacks [] hs = refl
lacks (w ∷ ws) [] = refl
lacks (w ∷ ws) (h ∷ hs) = ap (λ l. bit_and w (255 - h) ∷ l) (lacks ws hs)

pub lacks_at : (v ws hs : List ℕ) → v ≡ zip2 (λ w h. bit_and w (255 - h)) ws hs → length ws ≡ 64 → length hs ≡ 64 → (i : ℕ) → i < 64 → get_or v i 0 ≡ bit_and (get_or ws i 0) (255 - get_or hs i 0)
lacks_at v ws hs e p q i lt = ap (λ l. get_or l i 0) e ∙ get_or-zip2 (λ w h. bit_and w (255 - h)) ws hs i 0 0 0 (omega (arith, p)) (omega (arith, q))
