-- Which function and which label of a certificate stand at a slot.
use Rattle.std.specs.Prelude.{ℕ, ◌==◌, nat_le, Bool, List, [], ◌∷◌, flat_map, Option, Some, None, if◌then◌else◌}
use Rattle.bpf_cert.specs.View.{LabelView, FunctionView, CertificateView}

-- all labels, in the certificate's order
abbrev pub labels : CertificateView → List LabelView
labels c = flat_map (λ f. f.labels) c.functions

-- the first that passes
abbrev pub first_with : {A : Type 0} → (A → Bool) → List A → Option A
first_with test [] = None
first_with test (x ∷ xs) = if test x then Some x else first_with test xs

-- the label at a slot: of two the earlier
abbrev pub label_at : CertificateView → ℕ → Option LabelView
label_at c slot = first_with (λ l. l.slot == slot) (labels c)

-- the function that begins at a slot
abbrev pub function_from : CertificateView → ℕ → Option FunctionView
function_from c slot = first_with (λ f. f.first == slot) c.functions

-- a function covers the slots from its first to the next function's first
abbrev pub last_from : Option FunctionView → ℕ → List FunctionView → Option FunctionView
last_from found slot [] = found
last_from found slot (f ∷ fs) = if nat_le f.first slot then last_from (Some f) slot fs else found

abbrev pub function_at : CertificateView → ℕ → Option FunctionView
function_at c slot = last_from None slot c.functions
