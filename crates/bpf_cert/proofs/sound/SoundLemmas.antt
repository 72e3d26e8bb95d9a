-- Labels and functions of a certificate in the making, one more.
use Rattle.std.proofs.Common.{◌≡◌, ℕ, ◌<◌, Bool, true, false, ltb, List, [], ◌∷◌, ◌++◌, length, Some, refl, sym, ap, ◌∙◌}
use Rattle.std.specs.Prelude.{◌&&◌, option_map}
use Rattle.std.proofs.lemmas.Bool.{lt-ltb}
use Rattle.bpf_cert.specs.Faults.{comes_after}
use Rattle.bpf_cert.specs.Limits.{is_rising, is_canonical_label, is_limited_label, is_canonical_function, is_limited_function}
use Rattle.bpf_cert.specs.code.TermSums.{last}
use Rattle.bpf_cert.specs.View.{LabelView, FunctionView}
use Rattle.bpf_cert.specs.code.Sound.{AreLabels, AreFunctions, IsNext, first_of, slot_of}
use Rattle.bpf_cert.proofs.FindingLemmas.{list_all_end}
use Rattle.bpf_cert.proofs.Bools.{both_true}

pub last_more : {A : Type 0} (xs : List A) (x : A) → last (xs ++ x ∷ []) ≡ Some x
last_more [] x = refl
last_more (y ∷ []) x = refl
last_more (y ∷ z ∷ zs) x = last_more (z ∷ zs) x

-- one more, by the keys
rising_more : {A : Type 0} (key : A → ℕ) (xs : List A) (x : A) → is_rising (λ a b. ltb (key a) (key b)) (xs ++ x ∷ []) ≡ (is_rising (λ a b. ltb (key a) (key b)) xs && comes_after ltb (option_map key (last xs)) (key x))
rising_more key [] x = refl
rising_more key (y ∷ []) x = one (ltb (key y) (key x))
  where
    one : (b : Bool) → (b && true) ≡ (true && b)
    one true = refl
    one false = refl
rising_more key (y ∷ z ∷ zs) x = ap (λ b. ltb (key y) (key z) && b) (rising_more key (z ∷ zs) x) ∙ grouped (ltb (key y) (key z)) (is_rising (λ a b. ltb (key a) (key b)) (z ∷ zs)) (comes_after ltb (option_map key (last (z ∷ zs))) (key x))
  where
    grouped : (a b c : Bool) → (a && (b && c)) ≡ ((a && b) && c)
    grouped true b c = refl
    grouped false b c = refl

-- a label behind others
pub record IsLast (ls : List LabelView) (l : LabelView) : Type 0 where
  pub order : comes_after ltb (option_map slot_of (last ls)) l.slot ≡ true
  pub canonical : is_canonical_label l ≡ true
  pub limited : is_limited_label l ≡ true

pub labels_more : (ls : List LabelView) (l : LabelView) → AreLabels ls → IsLast ls l → AreLabels (ls ++ l ∷ [])
labels_more ls l are is = record {
  order = rising_more slot_of ls l ∙ rw (are.order, is.order) refl;
  canonical = list_all_end is_canonical_label ls l ∙ rw (are.canonical, is.canonical) refl;
  limited = list_all_end is_limited_label ls l ∙ rw (are.limited, is.limited) refl;
}

pub labels_less : (ls : List LabelView) (l : LabelView) → AreLabels (ls ++ l ∷ []) → AreLabels ls × IsLast ls l
labels_less ls l are =
    let order = both_true _ _ (sym (rising_more slot_of ls l) ∙ are.order) in
    let canonical = both_true _ _ (sym (list_all_end is_canonical_label ls l) ∙ are.canonical) in
    let limited = both_true _ _ (sym (list_all_end is_limited_label ls l) ∙ are.limited) in
    (record { order = order.0; canonical = canonical.0; limited = limited.0 }, record { order = order.1; canonical = canonical.1; limited = limited.1 })

pub functions_more : (fs : List FunctionView) (f : FunctionView) → AreFunctions fs → IsNext fs f → AreLabels f.labels → 0 < length f.labels → AreFunctions (fs ++ f ∷ [])
functions_more fs f are is labels some =
    let canonical : is_canonical_function f ≡ true = rw (labels.order, labels.canonical) refl in
    let limited : is_limited_function f ≡ true = rw (is.first, is.depth, is.ret, lt-ltb 0 (length f.labels) some, labels.limited) refl in
    record {
      order = rising_more first_of fs f ∙ rw (are.order, is.order) refl;
      canonical = list_all_end is_canonical_function fs f ∙ rw (are.canonical, canonical) refl;
      limited = list_all_end is_limited_function fs f ∙ rw (are.limited, limited) refl;
    }
