-- What a certificate's order and limits say of what is found in it.
use Rattle.std.proofs.Common.{◌≡◌, ℕ, ◌+◌, ◌<◌, ◌≤◌, arith, Bool, true, false, cond, List, [], ◌∷◌, ◌++◌, length, map, get_or, drop, Option, Some, None, refl, sym, ap, subst, ◌∙◌}
use Rattle.std.specs.Prelude.{option_map, nat_le, ◌==◌}
use Rattle.std.specs.List.{list_all, flat_map}
use Rattle.std.proofs.lemmas.Bool.{and_parts}
use Rattle.std.proofs.lemmas.Bool.Decides.{nat_tests}
use Rattle.std.proofs.lemmas.Option.{none-some, same_Some}
use Rattle.std.proofs.lemmas.List.Folds.{list_all-map}
use Rattle.std.proofs.lemmas.List.{at_drop_more}
use Rattle.bpf_cert.specs.Limits.{is_rising, IsCertificate, is_limited_header, slot_before, is_canonical_function, is_limited_function, is_limited_label}
use Rattle.bpf_cert.specs.declared.certificate.Function.{Function}
use Rattle.bpf_cert.specs.declared.certificate.Label.{Label}
use Rattle.bpf_cert.specs.View.{LabelView, FunctionView, CertificateView, function_view, label_view, header_of}
use Rattle.bpf_safety.specs.Labels.{labels, label_at, last_from, function_at, function_from, first_with}
use Rattle.bpf_check.specs.code.Search.{rises, last_up_to, with_key}
use Rattle.bpf_check.proofs.SearchLemmas.{first_is_last, first_with-append, first_with-append_some, first_with_passes, list_all-append, list_all_get}

pub functions_rise : (c : CertificateView) → IsCertificate c → rises (λ f. f.first) c.functions ≡ true
functions_rise c valid = (and_parts _ _ (and_parts _ _ valid).0).0

pub functions_canonical : (c : CertificateView) → IsCertificate c → list_all is_canonical_function c.functions ≡ true
functions_canonical c valid = (and_parts _ _ (and_parts _ _ valid).0).1

pub functions_limited : (c : CertificateView) → IsCertificate c → list_all is_limited_function c.functions ≡ true
functions_limited c valid = (and_parts _ _ (and_parts _ _ valid).1).1

pub range_is_one : (c : CertificateView) → IsCertificate c → c.least ≤ c.most
range_is_one c valid =
    let header : is_limited_header (header_of c) ≡ true = (and_parts _ _ (and_parts _ _ (and_parts _ _ (and_parts _ _ valid).1).0).0).0 in
    let ordered : nat_le c.least c.most ≡ true = (and_parts _ _ (and_parts _ _ (and_parts _ _ header).0).0).1 in
    grind (arith, nat_tests)

pub most_fits : (c : CertificateView) → IsCertificate c → c.most ≤ 4096
most_fits c valid =
    let header : is_limited_header (header_of c) ≡ true = (and_parts _ _ (and_parts _ _ (and_parts _ _ (and_parts _ _ valid).1).0).0).0 in
    let fits : nat_le c.most 4096 ≡ true = (and_parts _ _ (and_parts _ _ header).0).1 in
    grind (arith, nat_tests)

pub labels_limited : (f : FunctionView) → is_limited_function f ≡ true → list_all is_limited_label f.labels ≡ true
labels_limited f limited = (and_parts _ _ limited).1

all_labels_limited : (fs : List FunctionView) → list_all is_limited_function fs ≡ true → list_all is_limited_label (flat_map (λ f. f.labels) fs) ≡ true
all_labels_limited [] all = refl
all_labels_limited (f ∷ fs) all = list_all-append is_limited_label f.labels _ (labels_limited f (and_parts _ _ all).0) (all_labels_limited fs (and_parts _ _ all).1)

pub label_at_limited : (c : CertificateView) (slot : ℕ) (l : LabelView) → IsCertificate c → label_at c slot ≡ Some l → is_limited_label l ≡ true
label_at_limited c slot l valid e = first_with_passes is_limited_label (λ x. x.slot == slot) (labels c) l (all_labels_limited c.functions (functions_limited c valid)) e

-- ---- functions up to a slot

pub last_from_passes : (p : FunctionView → Bool) (found : Option FunctionView) (slot : ℕ) (fs : List FunctionView) (f : FunctionView) → list_all p fs ≡ true → (found ≡ Some f → p f ≡ true) → last_from found slot fs ≡ Some f → p f ≡ true
last_from_passes p found slot [] f all before e = before e
last_from_passes p found slot (g ∷ gs) f all before e =
    here (nat_le g.first slot) e (last_from_passes p (Some g) slot gs f (and_parts _ _ all).1 (λ q. subst (λ h. p h ≡ true) (same_Some g f q) (and_parts _ _ all).0))
  where
    here : (b : Bool) → cond b (last_from (Some g) slot gs) found ≡ Some f → (last_from (Some g) slot gs ≡ Some f → p f ≡ true) → p f ≡ true
    here true q later = later q
    here false q later = before q

pub function_at_limited : (c : CertificateView) (slot : ℕ) (f : FunctionView) → IsCertificate c → function_at c slot ≡ Some f → is_limited_function f ≡ true
function_at_limited c slot f valid e = last_from_passes is_limited_function None slot c.functions f (functions_limited c valid) (λ q. absurd (none-some f q)) e

pub last_from_is : (found : Option FunctionView) (slot : ℕ) (fs : List FunctionView) → last_from found slot fs ≡ last_up_to (λ f. f.first) found slot fs
last_from_is found slot [] = refl
last_from_is found slot (f ∷ fs) = ap (λ o. cond (nat_le f.first slot) o found) (last_from_is (Some f) slot fs)

last_from-map : (found : Option Function) (slot : ℕ) (fs : List Function) → option_map function_view (last_up_to (λ f. f.first) found slot fs) ≡ last_from (option_map function_view found) slot (map function_view fs)
last_from-map found slot [] = refl
last_from-map found slot (f ∷ fs) = here (nat_le f.first slot) (last_from-map (Some f) slot fs)
  where
    here : (b : Bool) → option_map function_view (last_up_to (λ g. g.first) (Some f) slot fs) ≡ last_from (Some (function_view f)) slot (map function_view fs) → option_map function_view (cond b (last_up_to (λ g. g.first) (Some f) slot fs) found) ≡ cond b (last_from (Some (function_view f)) slot (map function_view fs)) (option_map function_view found)
    here true e = e
    here false e = refl

pub function_at_is : (c : CertificateView) (slot : ℕ) (fs : List Function) (o : Option Function) → map function_view fs ≡ c.functions → o ≡ last_up_to (λ f. f.first) None slot fs → option_map function_view o ≡ function_at c slot
function_at_is c slot fs o same e = ap (option_map function_view) e ∙ last_from-map None slot fs ∙ ap (last_from None slot) same

pub function_from_is : (c : CertificateView) (slot : ℕ) (o : Option FunctionView) → IsCertificate c → o ≡ function_at c slot → with_key (λ f. f.first) slot o ≡ function_from c slot
function_from_is c slot o valid e =
    ap (with_key (λ f. f.first) slot) (e ∙ last_from_is None slot c.functions)
    ∙ sym (first_is_last (λ f. f.first) slot c.functions (functions_rise c valid))

-- ---- labels function by function

abbrev pub labels_of : ℕ → List Function → Option LabelView
labels_of slot fs = first_with (λ l. l.slot == slot) (flat_map (λ f. f.labels) (map function_view fs))

pub labels_rise_at : (c : CertificateView) (fs : List Function) (i : ℕ) (f : Function) (ls : List Label) → IsCertificate c → map function_view fs ≡ c.functions → i < length fs → f ≡ get_or fs i f → ls ≡ f.labels.items → is_rising slot_before (map label_view ls) ≡ true
labels_rise_at c fs i f ls valid same h e s =
    let all : list_all (λ g. is_canonical_function (function_view g)) fs ≡ true = sym (list_all-map is_canonical_function function_view fs) ∙ ap (list_all is_canonical_function) same ∙ functions_canonical c valid in
    ap (λ l. is_rising slot_before (map label_view l)) s ∙ (and_parts _ _ (list_all_get (λ g. is_canonical_function (function_view g)) fs i f all h e)).0

-- the labels of a function and of those behind it
from_here : (slot : ℕ) (fs : List Function) (i : ℕ) (f : Function) → i < length fs → f ≡ get_or fs i f → labels_of slot (drop i fs) ≡ first_with (λ l. l.slot == slot) (map label_view f.labels.items ++ flat_map (λ g. g.labels) (map function_view (drop (i + 1) fs)))
from_here slot fs i f h e = at_drop_more (labels_of slot) fs i f h ∙ ap (λ g. labels_of slot (g ∷ drop (i + 1) fs)) (sym e)

pub label_here : (slot : ℕ) (fs : List Function) (i : ℕ) (f : Function) (ls : List Label) (l : LabelView) → i < length fs → f ≡ get_or fs i f → ls ≡ f.labels.items → Some l ≡ first_with (λ x. x.slot == slot) (map label_view ls) → labels_of slot (drop i fs) ≡ Some l
label_here slot fs i f ls l h e s found =
    from_here slot fs i f h e
    ∙ first_with-append_some (λ x. x.slot == slot) (map label_view f.labels.items) _ l (ap (λ k. first_with (λ x. x.slot == slot) (map label_view k)) (sym s) ∙ sym found)

pub label_later : (slot : ℕ) (fs : List Function) (i : ℕ) (f : Function) (ls : List Label) → i < length fs → f ≡ get_or fs i f → ls ≡ f.labels.items → None ≡ first_with (λ x. x.slot == slot) (map label_view ls) → labels_of slot (drop i fs) ≡ labels_of slot (drop (i + 1) fs)
label_later slot fs i f ls h e s none =
    from_here slot fs i f h e
    ∙ first_with-append (λ x. x.slot == slot) (map label_view f.labels.items) _ (ap (λ k. first_with (λ x. x.slot == slot) (map label_view k)) (sym s) ∙ sym none)
