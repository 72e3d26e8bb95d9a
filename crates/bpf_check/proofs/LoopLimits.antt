-- Limits of the functions and labels that a loop comes to.
use Rattle.std.proofs.Common.{◌≡◌, ℕ, ◌<◌, true, List, length, map, get_or, sym, ap, ◌∙◌}
use Rattle.std.specs.List.{list_all}
use Rattle.std.proofs.lemmas.List.Folds.{list_all-map}
use Rattle.bpf_cert.specs.declared.certificate.Function.{Function}
use Rattle.bpf_cert.specs.declared.certificate.Label.{Label}
use Rattle.bpf_cert.specs.View.{CertificateView, function_view, label_view}
use Rattle.bpf_cert.specs.Limits.{IsCertificate, is_limited_function, is_limited_label}
use Rattle.bpf_check.proofs.CertificateFacts.{functions_limited, labels_limited}
use Rattle.bpf_check.proofs.SearchLemmas.{list_all_get}

pub function_limited : (c : CertificateView) (fs : List Function) (i : ℕ) (f : Function) → IsCertificate c → map function_view fs ≡ c.functions → i < length fs → f ≡ get_or fs i f → is_limited_function (function_view f) ≡ true
function_limited c fs i f valid same h e =
    list_all_get (λ g. is_limited_function (function_view g)) fs i f (sym (list_all-map is_limited_function function_view fs) ∙ ap (list_all is_limited_function) same ∙ functions_limited c valid) h e

pub label_limited : (f : Function) (ls : List Label) (i : ℕ) (l : Label) → is_limited_function (function_view f) ≡ true → ls ≡ f.labels.items → i < length ls → l ≡ get_or ls i l → is_limited_label (label_view l) ≡ true
label_limited f ls i l limited s h e =
    list_all_get (λ x. is_limited_label (label_view x)) ls i l (sym (list_all-map is_limited_label label_view ls) ∙ ap (λ k. list_all is_limited_label (map label_view k)) s ∙ labels_limited (function_view f) limited) h e
