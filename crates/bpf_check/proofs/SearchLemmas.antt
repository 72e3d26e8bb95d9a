-- Searches in lists that rise by a key.
use Rattle.std.proofs.Common.{◌≡◌, ℕ, zero, suc, ◌-◌, ◌<◌, ◌≤◌, Bool, true, false, cond, ◌&&◌, List, [], ◌∷◌, ◌++◌, length, map, take, drop, get_or, Option, Some, None, refl, sym, ap, subst, ◌∙◌, arith}
use Rattle.std.specs.Prelude.{nat_le, ◌==◌}
use Rattle.std.specs.List.{list_all}
use Rattle.std.specs.Prelude.{option_map}
use Rattle.std.proofs.lemmas.Option.{none-some, same_Some}
use Rattle.std.proofs.lemmas.List.{get_or-drop}
use Rattle.std.proofs.Common.{add-zero}
use Rattle.std.proofs.lemmas.Bool.{true≢false, leb-true, eq-eqb, and_parts, and_from, ltb-true, leb-false, le-leb, lt-leb, ne_eqb, cond-true, cond-false}
use Rattle.bpf_cert.specs.Limits.{is_rising}
use Rattle.bpf_safety.specs.Labels.{first_with}
use Rattle.bpf_check.specs.code.Search.{rises, last_up_to, with_key, IsFoundIn}

pub is_rising-map : {A B : Type 0} (before : B → B → Bool) (f : A → B) (xs : List A) → is_rising before (map f xs) ≡ is_rising (λ x y. before (f x) (f y)) xs
is_rising-map before f [] = refl
is_rising-map before f (x ∷ []) = refl
is_rising-map before f (x ∷ y ∷ xs) = ap (λ b. before (f x) (f y) && b) (is_rising-map before f (y ∷ xs))

pub rises_tail : {A : Type 0} (key : A → ℕ) (x : A) (xs : List A) → rises key (x ∷ xs) ≡ true → rises key xs ≡ true
rises_tail key x [] r = refl
rises_tail key x (y ∷ ys) r = (and_parts _ _ r).1

pub rises_head : {A : Type 0} (key : A → ℕ) (x y : A) (ys : List A) → rises key (x ∷ y ∷ ys) ≡ true → key x < key y
rises_head key x y ys r = ltb-true _ _ (and_parts _ _ r).0

-- the first lies below each other
below : {A : Type 0} (key : A → ℕ) (x : A) (xs : List A) (m : ℕ) (y : A) → rises key (x ∷ xs) ≡ true → m < length xs → y ≡ get_or xs m y → key x < key y
below key x [] m y r h e = absurd (omega arith)
below key x (z ∷ zs) zero y r h e = subst (λ w. key x < key w) (sym e) (rises_head key x z zs r)
below key x (z ∷ zs) (suc m) y r h e =
    let first = rises_head key x z zs r in
    let rest = below key z zs m y (rises_tail key x (z ∷ zs) r) (omega arith) e in
    omega (arith, first, rest)

-- what was found before doesn't matter where something is found
any_found : {A : Type 0} (key : A → ℕ) (a b : Option A) (n : ℕ) (xs : List A) (m : ℕ) (y : A) → m < length xs → y ≡ get_or xs m y → key y ≤ n → last_up_to key a n (drop m xs) ≡ last_up_to key b n (drop m xs)
any_found key a b n [] m y h e le = absurd (omega arith)
any_found key a b n (x ∷ xs) zero y h e le =
    let test = le-leb (key x) n (subst (λ w. key w ≤ n) e le) in
    cond-true _ _ _ test ∙ sym (cond-true _ _ _ test)
any_found key a b n (x ∷ xs) (suc m) y h e le = any_found key a b n xs m y (omega arith) e le

-- an element that isn't above leaves those before it out
pub last_in_drop : {A : Type 0} (key : A → ℕ) (found : Option A) (n : ℕ) (xs : List A) (m : ℕ) (y : A) → rises key xs ≡ true → m < length xs → y ≡ get_or xs m y → key y ≤ n → last_up_to key found n xs ≡ last_up_to key found n (drop m xs)
last_in_drop key found n xs zero y r h e le = refl
last_in_drop key found n [] (suc m) y r h e le = refl
last_in_drop key found n (x ∷ xs) (suc m) y r h e le =
    let lower = below key x xs m y r (omega arith) e in
    let test = le-leb (key x) n (omega (arith, lower, le)) in
    cond-true _ _ _ test
    ∙ last_in_drop key (Some x) n xs m y (rises_tail key x xs r) (omega arith) e le
    ∙ any_found key (Some x) found n xs m y (omega arith) e le

-- an element that is above leaves itself and those behind it out
pub last_in_take : {A : Type 0} (key : A → ℕ) (found : Option A) (n : ℕ) (xs : List A) (m : ℕ) (y : A) → m < length xs → y ≡ get_or xs m y → n < key y → last_up_to key found n xs ≡ last_up_to key found n (take m xs)
last_in_take key found n [] m y h e lt = absurd (omega arith)
last_in_take key found n (x ∷ xs) zero y h e lt = cond-false _ _ _ (lt-leb (key x) n (subst (λ w. n < key w) e lt))
last_in_take key found n (x ∷ xs) (suc m) y h e lt = ap (λ z. cond (nat_le (key x) n) z found) (last_in_take key (Some x) n xs m y (omega arith) e lt)

pub rises-drop : {A : Type 0} (key : A → ℕ) (m : ℕ) (xs : List A) → rises key xs ≡ true → rises key (drop m xs) ≡ true
rises-drop key zero xs r = r
rises-drop key (suc m) [] r = refl
rises-drop key (suc m) (x ∷ xs) r = rises-drop key m xs (rises_tail key x xs r)

pub rises-take : {A : Type 0} (key : A → ℕ) (m : ℕ) (xs : List A) → rises key xs ≡ true → rises key (take m xs) ≡ true
rises-take key zero xs r = refl
rises-take key (suc m) [] r = refl
rises-take key (suc zero) (x ∷ xs) r = refl
rises-take key (suc (suc m)) (x ∷ []) r = refl
rises-take key (suc (suc m)) (x ∷ y ∷ ys) r = and_from _ _ (and_parts _ _ r).0 (rises-take key (suc m) (y ∷ ys) (and_parts _ _ r).1)

none_above : {A : Type 0} (key : A → ℕ) (n : ℕ) (y : A) (ys : List A) → rises key (y ∷ ys) ≡ true → n < key y → first_with (λ x. key x == n) (y ∷ ys) ≡ None
none_above key n y [] r lt = cond-false _ _ _ (ne_eqb (key y) n (λ e. absurd (omega arith)))
none_above key n y (z ∷ zs) r lt =
    let up = rises_head key y z zs r in
    cond-false _ _ _ (ne_eqb (key y) n (λ e. absurd (omega arith)))
    ∙ none_above key n z zs (rises_tail key y (z ∷ zs) r) (omega (arith, up, lt))

found_among : {A : Type 0} (key : A → ℕ) (n : ℕ) (x : A) (xs : List A) → rises key (x ∷ xs) ≡ true → key x ≤ n → with_key key n (last_up_to key (Some x) n xs) ≡ first_with (λ y. key y == n) (x ∷ xs)
found_among key n x [] r le = refl
found_among key n x (y ∷ ys) r le = at_next (found_among key n y ys (rises_tail key x (y ∷ ys) r)) (nat_le (key y) n) refl
  where
    at_next : (key y ≤ n → with_key key n (last_up_to key (Some y) n ys) ≡ first_with (λ z. key z == n) (y ∷ ys)) → (b : Bool) → nat_le (key y) n ≡ b → with_key key n (cond b (last_up_to key (Some y) n ys) (Some x)) ≡ first_with (λ z. key z == n) (x ∷ y ∷ ys)
    at_next later true e =
        let up = rises_head key x y ys r in
        let here = later (leb-true (key y) n e) in
        here ∙ sym (cond-false _ _ _ (ne_eqb (key x) n (λ same. absurd (omega (arith, up, leb-true (key y) n e, same)))))
    at_next later false e = ap (λ o. cond (key x == n) (Some x) o) (sym (none_above key n y ys (rises_tail key x (y ∷ ys) r) (leb-false (key y) n e)))

-- in a rising list the element with a key is the last one up to it
pub first_is_last : {A : Type 0} (key : A → ℕ) (n : ℕ) (xs : List A) → rises key xs ≡ true → first_with (λ x. key x == n) xs ≡ with_key key n (last_up_to key None n xs)
first_is_last key n [] r = refl
first_is_last key n (x ∷ xs) r = here (nat_le (key x) n) refl
  where
    here : (b : Bool) → nat_le (key x) n ≡ b → first_with (λ y. key y == n) (x ∷ xs) ≡ with_key key n (cond b (last_up_to key (Some x) n xs) None)
    here true e = sym (found_among key n x xs r (leb-true (key x) n e))
    here false e = none_above key n x xs r (leb-false (key x) n e)

-- ---- a list split before its place m

at_split : {A : Type 0} (xs : List A) (m : ℕ) (back : List A) (y : A) → back ≡ drop m xs → y ≡ get_or back 0 y → y ≡ get_or xs m y
at_split xs m back y b e = e ∙ ap (λ l. get_or l 0 y) b ∙ get_or-drop m xs 0 y ∙ ap (λ i. get_or xs i y) (add-zero m)

pub in_back : {A : Type 0} (key : A → ℕ) (n : ℕ) (xs back : List A) (m : ℕ) (y : A) → rises key xs ≡ true → m < length xs → back ≡ drop m xs → y ≡ get_or back 0 y → key (get_or back 0 y) ≤ n → last_up_to key None n xs ≡ last_up_to key None n back
in_back key n xs back m y r h b e le = last_in_drop key None n xs m y r h (at_split xs m back y b e) (subst (λ w. key w ≤ n) (sym e) le) ∙ ap (last_up_to key None n) (sym b)

pub in_front : {A : Type 0} (key : A → ℕ) (n : ℕ) (xs front back : List A) (m : ℕ) (y : A) → m < length xs → front ≡ take m xs → back ≡ drop m xs → y ≡ get_or back 0 y → n < key (get_or back 0 y) → last_up_to key None n xs ≡ last_up_to key None n front
in_front key n xs front back m y h f b e lt = last_in_take key None n xs m y h (at_split xs m back y b e) (subst (λ w. n < key w) (sym e) lt) ∙ ap (last_up_to key None n) (sym f)

pub back_rises : {A : Type 0} (key : A → ℕ) (xs back : List A) (m : ℕ) → rises key xs ≡ true → back ≡ drop m xs → rises key back ≡ true
back_rises key xs back m r b = ap (rises key) b ∙ rises-drop key m xs r

pub front_rises : {A : Type 0} (key : A → ℕ) (xs front : List A) (m : ℕ) → rises key xs ≡ true → front ≡ take m xs → rises key front ≡ true
front_rises key xs front m r f = ap (rises key) f ∙ rises-take key m xs r

-- ---- a part in which the last is found

pub found_in_all : {A : Type 0} (key : A → ℕ) (n until : ℕ) (xs : List A) → rises key xs ≡ true → IsFoundIn key n until xs xs
found_in_all key n until xs r = record { rises = r; last = refl; later = λ m low high. refl }

pub found_in_front : {A : Type 0} (key : A → ℕ) (n : ℕ) (xs front back : List A) (m : ℕ) (y : A) → rises key xs ≡ true → m < length xs → front ≡ take m xs → back ≡ drop m xs → y ≡ get_or back 0 y → n < key (get_or back 0 y) → IsFoundIn key n (key (get_or back 0 y)) xs front
found_in_front key n xs front back m y r h f b e lt = record {
  rises = front_rises key xs front m r f;
  last = in_front key n xs front back m y h f b e lt;
  later = λ k low high. in_front key k xs front back m y h f b e high;
}

pub found_from : {A : Type 0} (key : A → ℕ) (n until : ℕ) (xs back part : List A) (m : ℕ) (y : A) → rises key xs ≡ true → m < length xs → back ≡ drop m xs → y ≡ get_or back 0 y → key (get_or back 0 y) ≤ n → IsFoundIn key n until back part → IsFoundIn key n until xs part
found_from key n until xs back part m y r h b e le found = record {
  rises = found.rises;
  last = in_back key n xs back m y r h b e le ∙ found.last;
  later = λ k low high. in_back key k xs back m y r h b e (omega (arith, le, low)) ∙ found.later k low high;
}

-- ---- the element with a key, among what a view shows

pub first_with-map : {A B : Type 0} (test : B → Bool) (view : A → B) (xs : List A) → first_with test (map view xs) ≡ option_map view (first_with (λ x. test (view x)) xs)
first_with-map test view [] = refl
first_with-map test view (x ∷ xs) = here (test (view x)) (first_with-map test view xs)
  where
    here : (b : Bool) → first_with test (map view xs) ≡ option_map view (first_with (λ y. test (view y)) xs) → cond b (Some (view x)) (first_with test (map view xs)) ≡ option_map view (cond b (Some x) (first_with (λ y. test (view y)) xs))
    here true e = refl
    here false e = e

pub among : {A B : Type 0} (key : B → ℕ) (view : A → B) (n : ℕ) (xs : List A) (o : Option A) → rises (λ x. key (view x)) xs ≡ true → o ≡ last_up_to (λ x. key (view x)) None n xs → first_with (λ y. key y == n) (map view xs) ≡ option_map view (with_key (λ x. key (view x)) n o)
among key view n xs o r e =
    first_with-map (λ y. key y == n) view xs
    ∙ ap (option_map view) (first_is_last (λ x. key (view x)) n xs r)
    ∙ ap (λ p. option_map view (with_key (λ x. key (view x)) n p)) (sym e)

pub among_this : {A B : Type 0} (key : B → ℕ) (view : A → B) (n : ℕ) (xs : List A) (x : A) → rises (λ x. key (view x)) xs ≡ true → Some x ≡ last_up_to (λ x. key (view x)) None n xs → key (view x) ≡ n → Some (view x) ≡ first_with (λ y. key y == n) (map view xs)
among_this key view n xs x r e same = sym (among key view n xs (Some x) r e ∙ ap (option_map view) (cond-true _ _ _ (eq-eqb _ _ same)))

pub among_other : {A B : Type 0} (key : B → ℕ) (view : A → B) (n : ℕ) (xs : List A) (x : A) → rises (λ x. key (view x)) xs ≡ true → Some x ≡ last_up_to (λ x. key (view x)) None n xs → (key (view x) ≡ n → ⊥) → None ≡ first_with (λ y. key y == n) (map view xs)
among_other key view n xs x r e differs = sym (among key view n xs (Some x) r e ∙ ap (option_map view) (cond-false _ _ _ (ne_eqb _ _ differs)))

pub among_none : {A B : Type 0} (key : B → ℕ) (view : A → B) (n : ℕ) (xs : List A) → rises (λ x. key (view x)) xs ≡ true → None ≡ last_up_to (λ x. key (view x)) None n xs → None ≡ first_with (λ y. key y == n) (map view xs)
among_none key view n xs r e = sym (among key view n xs None r e)

-- nothing is there
pub among_empty : {A B : Type 0} (key : B → ℕ) (view : A → B) (n : ℕ) (xs : List A) → true ≡ (length xs == 0) → None ≡ first_with (λ z. key z == n) (map view xs)
among_empty key view n [] e = refl
among_empty key view n (x ∷ xs) e = absurd (true≢false (e ∙ ne_eqb (length (x ∷ xs)) 0 (λ same. absurd (omega arith))))

-- the first is above the number
pub among_above : {A B : Type 0} (key : B → ℕ) (view : A → B) (n : ℕ) (xs : List A) (y : A) → rises (λ x. key (view x)) xs ≡ true → n < key (view (get_or xs 0 y)) → None ≡ first_with (λ z. key z == n) (map view xs)
among_above key view n [] y r lt = refl
among_above key view n (x ∷ xs) y r lt = sym (first_with-map (λ z. key z == n) view (x ∷ xs) ∙ ap (option_map view) (none_above (λ z. key (view z)) n x xs r lt))

-- the last is below it
none_below : {A : Type 0} (key : A → ℕ) (n : ℕ) (xs : List A) (m : ℕ) (y : A) → rises key xs ≡ true → suc m ≡ length xs → y ≡ get_or xs m y → key y < n → first_with (λ x. key x == n) xs ≡ None
none_below key n [] m y r h e lt = refl
none_below key n (x ∷ []) zero y r h e lt = cond-false _ _ _ (ne_eqb (key x) n (λ same. absurd (omega (arith, subst (λ w. key w < n) e lt, same))))
none_below key n (x ∷ []) (suc m) y r h e lt = absurd (omega arith)
none_below key n (x ∷ z ∷ zs) zero y r h e lt = absurd (omega arith)
none_below key n (x ∷ z ∷ zs) (suc m) y r h e lt =
    let lower = below key x (z ∷ zs) m y r (omega arith) e in
    cond-false _ _ _ (ne_eqb (key x) n (λ same. absurd (omega (arith, lower, lt, same))))
    ∙ none_below key n (z ∷ zs) m y (rises_tail key x (z ∷ zs) r) (omega arith) e lt

pub among_below : {A B : Type 0} (key : B → ℕ) (view : A → B) (n : ℕ) (xs : List A) (y : A) → rises (λ x. key (view x)) xs ≡ true → y ≡ get_or xs (length xs - 1) y → key (view (get_or xs (length xs - 1) y)) < n → None ≡ first_with (λ z. key z == n) (map view xs)
among_below key view n [] y r e lt = refl
among_below key view n (x ∷ xs) y r e lt =
    sym (first_with-map (λ z. key z == n) view (x ∷ xs) ∙ ap (option_map view) (none_below (λ z. key (view z)) n (x ∷ xs) (length (x ∷ xs) - 1) y r (omega arith) e (subst (λ z. key (view z) < n) (sym e) lt)))

-- ---- behind a number up to which the same is the last

last_is_low : {A : Type 0} (key : A → ℕ) (found : Option A) (n : ℕ) (xs : List A) (x : A) → (found ≡ Some x → key x ≤ n) → last_up_to key found n xs ≡ Some x → key x ≤ n
last_is_low key found n [] x before e = before e
last_is_low key found n (y ∷ ys) x before e = here (nat_le (key y) n) refl e (last_is_low key (Some y) n ys x)
  where
    here : (b : Bool) → nat_le (key y) n ≡ b → cond b (last_up_to key (Some y) n ys) found ≡ Some x → ((Some y ≡ Some x → key x ≤ n) → last_up_to key (Some y) n ys ≡ Some x → key x ≤ n) → key x ≤ n
    here true t q later = later (λ r. subst (λ z. key z ≤ n) (same_Some y x r) (leb-true (key y) n t)) q
    here false t q later = before q

none_later : {A B : Type 0} (key : A → ℕ) (view : A → B) (slot n : ℕ) (xs : List A) (o : Option A) → o ≡ last_up_to key None slot xs → slot < n → option_map view (with_key key n o) ≡ None
none_later key view slot n xs None e h = refl
none_later key view slot n xs (Some x) e h =
    let low = last_is_low key None slot xs x (λ q. absurd (none-some x q)) (sym e) in
    ap (option_map view) (cond-false _ _ _ (ne_eqb (key x) n (λ same. absurd (omega (arith, low, same, h)))))

pub among_later : {A B : Type 0} (key : B → ℕ) (view : A → B) (slot n : ℕ) (xs : List A) (o : Option A) → rises (λ x. key (view x)) xs ≡ true → o ≡ last_up_to (λ x. key (view x)) None slot xs → last_up_to (λ x. key (view x)) None n xs ≡ last_up_to (λ x. key (view x)) None slot xs → slot < n → first_with (λ y. key y == n) (map view xs) ≡ None
among_later key view slot n xs o r e same h = among key view n xs o r (e ∙ sym same) ∙ none_later (λ x. key (view x)) view slot n xs o e h

-- ---- in lists joined

pub first_with-append : {A : Type 0} (test : A → Bool) (xs ys : List A) → first_with test xs ≡ None → first_with test (xs ++ ys) ≡ first_with test ys
first_with-append test [] ys e = refl
first_with-append test (x ∷ xs) ys e = here (test x) e (first_with-append test xs ys)
  where
    here : (b : Bool) → cond b (Some x) (first_with test xs) ≡ None → (first_with test xs ≡ None → first_with test (xs ++ ys) ≡ first_with test ys) → cond b (Some x) (first_with test (xs ++ ys)) ≡ first_with test ys
    here true e later = absurd (none-some x (sym e))
    here false e later = later e

pub first_with-append_some : {A : Type 0} (test : A → Bool) (xs ys : List A) (x : A) → first_with test xs ≡ Some x → first_with test (xs ++ ys) ≡ Some x
first_with-append_some test [] ys x e = absurd (none-some x e)
first_with-append_some test (y ∷ xs) ys x e = here (test y) e (first_with-append_some test xs ys x)
  where
    here : (b : Bool) → cond b (Some y) (first_with test xs) ≡ Some x → (first_with test xs ≡ Some x → first_with test (xs ++ ys) ≡ Some x) → cond b (Some y) (first_with test (xs ++ ys)) ≡ Some x
    here true e later = e
    here false e later = later e

pub first_with_passes : {A : Type 0} (p test : A → Bool) (xs : List A) (x : A) → list_all p xs ≡ true → first_with test xs ≡ Some x → p x ≡ true
first_with_passes p test [] x all e = absurd (none-some x e)
first_with_passes p test (y ∷ xs) x all e = here (test y) e (first_with_passes p test xs x (and_parts _ _ all).1)
  where
    here : (b : Bool) → cond b (Some y) (first_with test xs) ≡ Some x → (first_with test xs ≡ Some x → p x ≡ true) → p x ≡ true
    here true e later = subst (λ z. p z ≡ true) (same_Some y x e) (and_parts _ _ all).0
    here false e later = later e

pub list_all-append : {A : Type 0} (p : A → Bool) (xs ys : List A) → list_all p xs ≡ true → list_all p ys ≡ true → list_all p (xs ++ ys) ≡ true
list_all-append p [] ys a b = b
list_all-append p (x ∷ xs) ys a b = and_from _ _ (and_parts _ _ a).0 (list_all-append p xs ys (and_parts _ _ a).1 b)

pub list_all_get : {A : Type 0} (p : A → Bool) (xs : List A) (i : ℕ) (x : A) → list_all p xs ≡ true → i < length xs → x ≡ get_or xs i x → p x ≡ true
list_all_get p [] i x all h e = absurd (omega arith)
list_all_get p (y ∷ xs) zero x all h e = subst (λ z. p z ≡ true) (sym e) (and_parts _ _ all).0
list_all_get p (y ∷ xs) (suc i) x all h e = list_all_get p xs i x (and_parts _ _ all).1 (omega arith) e
