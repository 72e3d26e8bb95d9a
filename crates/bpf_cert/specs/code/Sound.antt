-- What the parts of a certificate in the making keep of its order and limits.
use Rattle.std.specs.Prelude.{◌≡◌, ◌≤◌, ◌<◌, ℕ, ◌+◌, true, List, [], ◌∷◌, ◌++◌, length, map, sum_by, Some, option_map, nat_lt}
use Rattle.std.specs.List.{list_all}
use Rattle.bpf_state.specs.State.{AbstractState}
use Rattle.bpf_cert.specs.Faults.{comes_after}
use Rattle.bpf_cert.specs.Limits.{is_rising, is_canonical_state, is_limited_state, slot_before, is_canonical_label, is_limited_label, first_before, is_canonical_function, is_limited_function, is_limited_num, label_count, is_limited_header, IsCertificate, max_functions, max_labels, is_slot_number, is_depth}
use Rattle.bpf_cert.specs.code.TermSums.{last}
use Rattle.bpf_cert.specs.View.{LabelView, FunctionView, label_view, function_view, certificate_of}
use Rattle.bpf_cert.specs.declared.standing.Stage.{Stage}
use Rattle.bpf_cert.specs.declared.standing.Stage.TheVariants as stage
use Rattle.bpf_cert.specs.declared.standing.Standing.{Standing}
use Rattle.bpf_cert.specs.declared.building.Builder.{Builder}
use Rattle.bpf_cert.specs.declared.header.Header.{Header}

-- a state as a label of a certificate may have it
pub record IsLabelState (s : AbstractState) : Type 0 where
  pub canonical : is_canonical_state s ≡ true
  pub limited : is_limited_state s ≡ true

-- labels in order and within the limits
pub record AreLabels (ls : List LabelView) : Type 0 where
  pub order : is_rising slot_before ls ≡ true
  pub canonical : list_all is_canonical_label ls ≡ true
  pub limited : list_all is_limited_label ls ≡ true

-- functions in order and within the limits
pub record AreFunctions (fs : List FunctionView) : Type 0 where
  pub order : is_rising first_before fs ≡ true
  pub canonical : list_all is_canonical_function fs ≡ true
  pub limited : list_all is_limited_function fs ≡ true

abbrev pub first_of : FunctionView → ℕ
first_of f = f.first

abbrev pub slot_of : LabelView → ℕ
slot_of l = l.slot

-- a function behind others, but for its labels
pub record IsNext (fs : List FunctionView) (f : FunctionView) : Type 0 where
  pub order : comes_after nat_lt (option_map first_of (last fs)) f.first ≡ true
  pub first : is_slot_number f.first ≡ true
  pub depth : is_depth f.depth ≡ true
  pub ret : is_limited_num f.ret ≡ true

-- all functions are whole
pub record AreWhole (s : Standing) (h : Header) (fs : List FunctionView) : Type 0 where
  pub header : is_limited_header h ≡ true
  pub functions : AreFunctions fs
  pub first : s.first ≡ option_map first_of (last fs)
  pub count : s.functions ≡ length fs
  pub total : s.labels ≡ sum_by label_count fs
  pub few_functions : length fs ≤ max_functions
  pub few_labels : sum_by label_count fs ≤ max_labels

-- behind whole functions there is one that may have more labels
pub record HasFunction (s : Standing) (h : Header) (fs : List FunctionView) (f : FunctionView) : Type 0 where
  pub header : is_limited_header h ≡ true
  pub functions : AreFunctions fs
  pub next : IsNext fs f
  pub labels : AreLabels f.labels
  pub first : s.first ≡ Some f.first
  pub slot : s.slot ≡ option_map slot_of (last f.labels)
  pub count : s.functions ≡ length fs + 1
  pub total : s.labels ≡ sum_by label_count fs + length f.labels
  pub few_functions : length fs < max_functions
  pub few_labels : sum_by label_count fs + length f.labels ≤ max_labels

-- the functions in the list
abbrev pub closed : Builder → List FunctionView
closed b = map function_view b.functions.items

-- the function with its last label
abbrev pub with_label : FunctionView → LabelView → FunctionView
with_label f l = record f { labels = f.labels ++ l ∷ [] }

-- the last function with all its labels
abbrev pub function_at : Stage → Builder → FunctionView
function_at stage.Label b = with_label (function_view b.function) (label_view b.label)
function_at _ b = function_view b.function

-- all functions
abbrev pub functions_at : Stage → Builder → List FunctionView
functions_at stage.Function b = closed b ++ function_at stage.Function b ∷ []
functions_at stage.Label b = closed b ++ function_at stage.Label b ∷ []
functions_at _ b = closed b

-- what is kept behind each kind of line: whole functions, or one that may go on; behind `end` a certificate
abbrev pub IsSoundAt : Stage → Builder → Type 0
IsSoundAt stage.Start b = closed b ≡ []
IsSoundAt stage.Header b = AreWhole b.standing b.header (closed b)
IsSoundAt stage.Function b = HasFunction b.standing b.header (closed b) (function_at stage.Function b)
IsSoundAt stage.Label b = HasFunction b.standing b.header (closed b) (function_at stage.Label b)
IsSoundAt stage.Ended b = IsCertificate (certificate_of b.header (closed b))

abbrev pub IsSound : Builder → Type 0
IsSound b = IsSoundAt b.standing.stage b
