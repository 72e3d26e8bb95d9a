-- The table of opcodes and the forms of opcodes agree, computed over all 256 opcodes.
use Rattle.std.proofs.Common.{Bool, cond, ◌≡◌, ℕ, zero, suc, ◌+◌, ◌<◌, List, [], ◌∷◌, map, get_or, refl, ap, sym, ◌∙◌, arith, true, false}
use Rattle.std.specs.Prelude.{Option, Some, None, option_map}
use Rattle.bpf_insn.specs.Refusal.{table, uses_in, fields_in, is_left_out, left_out, refusal_by_uses, refusal_of_fields, refusal_here}
use Rattle.bpf_insn.specs.declared.fields.Fields.{Fields}
use Rattle.bpf_insn.specs.declared.form.Form.{Form}
use Rattle.bpf_insn.specs.declared.order.Order.{Order}
use Rattle.bpf_insn.specs.declared.refusal.LeftOut.{LeftOut}
use Rattle.bpf_insn.specs.declared.refusal.SlotFault.{SlotFault}
use Rattle.bpf_insn.specs.declared.refusal.SlotFault.TheVariants.{LeftOut as IsLeftOut}
use Rattle.bpf_insn.specs.declared.forms.TheConstants.{FORMS}
use Rattle.bpf_insn.specs.code.Form.{form_in, uses_of}

-- n, n + 1 and so on, k numbers
unfoldable pub numbers_from : ℕ → ℕ → List ℕ
numbers_from n zero = []
numbers_from n (suc k) = n ∷ numbers_from (n + 1) k

get_numbers : {X : Type 0} (f : ℕ → X) (d : X) (k n i : ℕ) → i < k → get_or (map f (numbers_from n k)) i d ≡ f (n + i)
unfolding numbers_from
get_numbers f d zero n i h = absurd (omega arith)
get_numbers f d (suc k) n zero h = ap f (omega arith)
get_numbers f d (suc k) n (suc i) h =
    let inside : i < k = omega arith in
    get_numbers f d k (n + 1) i inside ∙ ap f (omega arith)

-- two functions that agree on a whole range agree at each number in it
pub same_in_range : {X : Type 0} (f g : ℕ → X) (d : X) (k : ℕ) → map f (numbers_from 0 k) ≡ map g (numbers_from 0 k) → (i : ℕ) → i < k → f i ≡ g i
same_in_range f g d k e i h =
    ap f (omega arith) ∙ sym (get_numbers f d k 0 i h) ∙ ap (λ xs. get_or xs i d) e ∙ get_numbers g d k 0 i h ∙ ap g (omega arith)

uses_agree : map (λ b. uses_in table b) (numbers_from 0 256) ≡ map (λ b. option_map uses_of (form_in b)) (numbers_from 0 256)
unfolding numbers_from
uses_agree = refl

-- how an opcode's instruction uses its fields, by the table and by its form
pub uses_in-form : (b : ℕ) → b < 256 → uses_in table b ≡ option_map uses_of (form_in b)
uses_in-form = same_in_range (λ b. uses_in table b) (λ b. option_map uses_of (form_in b)) None 256 uses_agree

pub uses_by_form : (b : ℕ) (o : Option Form) → b < 256 → o ≡ form_in b → option_map uses_of o ≡ uses_in table b
uses_by_form b o small e = ap (option_map uses_of) e ∙ sym (uses_in-form b small)

forms_agree : map (λ b. get_or FORMS b None) (numbers_from 0 256) ≡ map (λ b. form_in b) (numbers_from 0 256)
unfolding numbers_from
forms_agree = refl

-- the form in the table is that of the opcode
pub forms_are : (b : ℕ) → b < 256 → get_or FORMS b None ≡ form_in b
forms_are = same_in_range (λ b. get_or FORMS b None) (λ b. form_in b) None 256 forms_agree

-- ---- the refusal: what is left out, or by the uses of fields

is_left : (b : Bool) (what w : LeftOut) (rest : Option SlotFault) → Some w ≡ cond b (Some what) None → Some (IsLeftOut w) ≡ cond b (Some (IsLeftOut what)) rest
is_left true what w rest e = ap (option_map IsLeftOut) e
is_left false what w rest e = cc

is_in : (b : Bool) (what : LeftOut) (rest : Option SlotFault) → None ≡ cond b (Some what) None → rest ≡ cond b (Some (IsLeftOut what)) rest
is_in true what rest e = cc
is_in false what rest e = refl

pub left_out_told : (order : Order) (bytes : List ℕ) (f : Fields) (w : LeftOut) → f ≡ fields_in order bytes → Some w ≡ cond (is_left_out f) (Some (left_out f)) None → Some (IsLeftOut w) ≡ refusal_here order bytes
unfolding refusal_here
left_out_told order bytes f w same e = is_left (is_left_out f) (left_out f) w (refusal_by_uses (uses_in table f.opcode) f bytes) e ∙ ap (λ g. refusal_of_fields g bytes) same

pub uses_told : (order : Order) (bytes : List ℕ) (f : Fields) → f ≡ fields_in order bytes → None ≡ cond (is_left_out f) (Some (left_out f)) None → refusal_by_uses (uses_in table f.opcode) f bytes ≡ refusal_here order bytes
unfolding refusal_here
uses_told order bytes f same e = is_in (is_left_out f) (left_out f) (refusal_by_uses (uses_in table f.opcode) f bytes) e ∙ ap (λ g. refusal_of_fields g bytes) same
