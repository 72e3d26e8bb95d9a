-- Which contexts are asked for, by numbers.
use Rattle.std.specs.Prelude.{◌≡◌, ◌⊎◌, ◌<◌, ℕ, zero, suc, ◌/◌, ◌%◌, ◌^◌, ◌==◌, ◌&&◌, nat_le, Bool, false, if◌then◌else◌}
use Rattle.bpf_insn.specs.Limits.{max_context}
use Rattle.bpf_insn.specs.declared.order.Order.{Order}
use Rattle.bpf_classic.specs.Template.{usual_turns}
use Rattle.bpf_classic.specs.declared.layout.Form.{Form}
use Rattle.bpf_classic.specs.declared.layout.Form.TheVariants.{Blocks, Plain, Seccomp, Extended}
use Rattle.bpf_classic.specs.declared.layout.Wanted.{Wanted}
use Rattle.bpf_host_calls.specs.Told.{order_named}
use Rattle.bpf_host_calls.specs.declared.asked.ConvertAsked.{ConvertAsked}

-- 0 is blocks, 1 packets, 2 seccomp's, and 3 blocks with the words of Linux's auxiliary data; a call refuses any other number
abbrev pub form_named : ℕ → Form
form_named zero = Blocks
form_named (suc zero) = Plain
form_named (suc (suc zero)) = Seccomp
form_named (suc (suc (suc n))) = Extended

-- whether contexts of a form may have so many bytes: a block has eight in front of the packet, or 72 with Linux's words, and
-- `struct seccomp_data` has 64
abbrev pub may_have : Form → ℕ → Bool
may_have Blocks size = nat_le 8 size && nat_le size max_context
may_have Plain size = nat_le size max_context
may_have Seccomp size = size == 64
may_have Extended size = nat_le 72 size && nat_le size max_context

-- the low 16 bits of what is asked for are the form's number, the high 16 how often a run may jump back, 0 as often as is usual
abbrev pub turn : ℕ
turn = 2 ^ 16

abbrev pub form_part : ℕ → ℕ
form_part asked = asked % turn

abbrev pub form_asked : ℕ → Form
form_asked asked = form_named (form_part asked)

abbrev pub turns_of : Form → ℕ → ℕ → ℕ
turns_of form size told = if told == 0 then usual_turns form size else told

abbrev pub wanted_by : ℕ → ℕ → Order → Wanted
wanted_by asked size order = record { form = form_asked asked; length = size; order = order; turns = turns_of (form_asked asked) size (asked / turn) }

-- the same by what is asked of the call
abbrev pub wanted_as : ConvertAsked → Wanted
wanted_as a = wanted_by a.form a.size (order_named a.order)

-- The call is refused: an order or a form has no such number, or no context of the form has so many bytes.
abbrev pub IsBadConvert : ConvertAsked → Type 0
IsBadConvert a = (1 < a.filter_order) ⊎ ((1 < a.order) ⊎ ((3 < form_part a.form) ⊎ (may_have (form_asked a.form) a.size ≡ false)))
