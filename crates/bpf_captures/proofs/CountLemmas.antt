-- How often numbers come among others, and one more.
use Rattle.std.proofs.Common.{◌≡◌, ◌==◌, ℕ, ◌+◌, Bool, true, false, cond, List, [], ◌∷◌, ◌++◌, Some, refl, sym, ap, subst, ◌∙◌, unwrap_or, arith}
use Rattle.std.specs.Ordering.{is_eq, nat_cmp}
use Rattle.std.specs.List.Sorted.{IsStrictlySortedBy}
use Rattle.std.specs.Map.{keys_of, lookup}
use Rattle.std.specs.Cmp.{unsigned_tied}
use Rattle.bpf_captures.specs.Lines.{AreCounts, times_if, times_in}

times_more : (v : ℕ) (values : List ℕ) (x : ℕ) → times_in v (values ++ x ∷ []) ≡ times_in v values + cond (x == v) 1 0
unfolding times_in
times_more v [] x = go (x == v)
  where
    go : (b : Bool) → cond b 1 0 ≡ 0 + cond b 1 0
    go true = refl
    go false = refl
times_more v (y ∷ ys) x = rw (times_more v ys x) (go (y == v))
  where
    go : (b : Bool) → cond b (1 + (times_in v ys + cond (x == v) 1 0)) (times_in v ys + cond (x == v) 1 0) ≡ cond b (1 + times_in v ys) (times_in v ys) + cond (x == v) 1 0
    go true = omega arith
    go false = refl

some_more : (n : ℕ) → times_if (n + 1) ≡ Some (n + 1)
some_more n = let none : (n + 1 == 0) ≡ false = grind arith in rw none refl

times_back : (n : ℕ) → unwrap_or (times_if n) 0 ≡ n
times_back n = go (n == 0) refl
  where
    go : (b : Bool) → (n == 0) ≡ b → unwrap_or (times_if n) 0 ≡ n
    go true e = let none : n ≡ 0 = grind arith in rw e (sym none)
    go false e = rw e refl

one_case : (values : List ℕ) (old : List (ℕ × ℕ)) (x times v : ℕ) → AreCounts values old → times ≡ unwrap_or (lookup (λ key. is_eq (nat_cmp x key)) old) 0 + 1 → (b : Bool) → (x == v) ≡ b
    → cond b (Some times) (lookup (λ key. is_eq (nat_cmp v key)) old) ≡ times_if (times_in v values + cond b 1 0)
one_case values old x times v h is true e =
    let same : x ≡ v = grind arith in
    let before : times ≡ times_in v values + 1 = is ∙ ap (λ o. unwrap_or o 0 + 1) (h.counted x) ∙ ap (λ n. n + 1) (times_back (times_in x values)) ∙ ap (λ n. times_in n values + 1) same in
    ap Some before ∙ sym (some_more (times_in v values))
one_case values old x times v h is false e = let none : times_in v values + 0 ≡ times_in v values = omega arith in rw none (h.counted v)

-- one more is counted
pub counted_more : (values : List ℕ) (old new : List (ℕ × ℕ)) (x times : ℕ) → AreCounts values old → times ≡ unwrap_or (lookup (λ key. is_eq (nat_cmp x key)) old) 0 + 1
    → ((q : ℕ) → lookup (λ key. is_eq (nat_cmp q key)) new ≡ cond (is_eq (nat_cmp x q)) (Some times) (lookup (λ key. is_eq (nat_cmp q key)) old)) → IsStrictlySortedBy nat_cmp (keys_of new) → AreCounts (values ++ x ∷ []) new
counted_more values old new x times h is sets ordered = record {
  ordered = ordered;
  counted = λ v. sets v ∙ ap (λ b. cond b (Some times) (lookup (λ key. is_eq (nat_cmp v key)) old)) (unsigned_tied x v) ∙ one_case values old x times v h is (x == v) refl ∙ ap times_if (sym (times_more v values x));
}

-- nothing is counted yet
pub none_counted : (counts : List (ℕ × ℕ)) → counts ≡ [] → AreCounts [] counts
unfolding times_in IsStrictlySortedBy
none_counted counts e = subst (λ c. AreCounts [] c) (sym e) (record { ordered = tt; counted = λ v. refl })
