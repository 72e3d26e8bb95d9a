-- Fronts of forms are completed by endings of the code: the parts of it, arithmetic, jumps.
use Rattle.std.proofs.Common.{◌≡◌, ℕ, zero, suc, Bool, true, false, cond, List, [], ◌∷◌, ◌++◌, take, Option, Some, None, option_map, refl, sym, ap, ◌∙◌, append_assoc, append-nil, subst}
use Rattle.std.specs.Prelude.{codes, is_some}
use Rattle.bpf_insn.specs.declared.instruction.Reg.{Reg}
use Rattle.bpf_insn.specs.declared.instruction.Reg.TheVariants.{R0, R1, R2, R3, R4, R5, R6, R7, R8, R9, R10}
use Rattle.bpf_insn.specs.declared.instruction.Width.{Width}
use Rattle.bpf_insn.specs.declared.instruction.Width.TheVariants.{W32, W64}
use Rattle.bpf_insn.specs.declared.instruction.Operand.{Operand}
use Rattle.bpf_insn.specs.declared.instruction.AluOp.{AluOp}
use Rattle.bpf_insn.specs.declared.instruction.AluOp.TheVariants.{Add, Sub, Mul, Div, SDiv, Or, And, Lsh, Rsh, Mod, SMod, Xor, Mov, Arsh}
use Rattle.bpf_insn.specs.declared.instruction.SignBits.{SignBits}
use Rattle.bpf_insn.specs.declared.instruction.SignBits.TheVariants.{B8 as S8}
use Rattle.bpf_insn.specs.declared.instruction.EndKind.{EndKind}
use Rattle.bpf_insn.specs.declared.instruction.EndBits.{EndBits}
use Rattle.bpf_insn.specs.declared.instruction.Cond.{Cond}
use Rattle.bpf_insn.specs.declared.instruction.Cond.TheVariants.{Eq, Gt, Ge, Set, Ne, SGt, SGe, Lt, Le, SLt, SLe}
use Rattle.bpf_insn.specs.declared.instruction.Insn.TheVariants.{Ja, JaLong, JumpIf, CallLocal}
use Rattle.bpf_text.specs.declared.line.LineFault.{LineFault}
use Rattle.bpf_text.specs.declared.line.LineFault.TheVariants.{NoForm, OutOfRange}
use Rattle.bpf_text.specs.declared.statement.Jump.TheVariants.{If as OnTest}
use Rattle.bpf_text.specs.Numerals.{word_value, fits_16, fits_32}
use Rattle.bpf_text.specs.Spelling.{register_text, operation_text, cond_text, swap_text}
use Rattle.bpf_text.specs.Statements.{plain, is_extension}
use Rattle.bpf_text.specs.Grammar.{Token, tokens, Numeral, Number, number_value, constant_tokens, Name, Address, Target, register_tokens, operand_tokens, target_tokens, Form, form_tokens, form_said, operand_said, target_said, branch_said}
use Rattle.bpf_text.specs.Grammar.{OperandForm}
use Rattle.bpf_text.specs.Grammar.Token.{word, mark}
use Rattle.bpf_text.specs.Stop.{passes}
use Rattle.bpf_text.specs.code.Endings.{endings, is_ending}

-- ---- fronts of a list

-- each front of a list has P
abbrev pub Fronts : (List Token → Type 0) → List Token → Type 0
Fronts P [] = P []
Fronts P (t ∷ ts) = P [] × Fronts (λ f. P (t ∷ f)) ts

pub front_at : (P : List Token → Type 0) (k : ℕ) (ts : List Token) → Fronts P ts → P (take k ts)
front_at P zero [] h = h
front_at P zero (t ∷ ts) h = h.0
front_at P (suc k) [] h = h
front_at P (suc k) (t ∷ ts) h = front_at (λ f. P (t ∷ f)) k ts h.1

first_front : (P : List Token → Type 0) (ts : List Token) → Fronts P ts → P []
first_front P [] h = h
first_front P (t ∷ ts) h = h.0

-- the fronts of a list and those that go on behind it
pub joined : (P : List Token → Type 0) (xs ys : List Token) → Fronts P xs → Fronts (λ f. P (xs ++ f)) ys → Fronts P (xs ++ ys)
joined P [] ys h k = k
joined P (x ∷ xs) ys h k = (h.0, joined (λ f. P (x ∷ f)) xs ys h.1 k)

-- ---- numbers, names and places of endings

unfoldable pub five : Numeral
unfolding word_value
five = record { digits = codes "5"; value = 5; is = refl }

unfoldable pub nought : Numeral
unfolding word_value
nought = record { digits = codes "0"; value = 0; is = refl }

abbrev pub small : Bool → Number
small minus = record { minus = minus; numeral = five }

abbrev pub none : Bool → Number
none minus = record { minus = minus; numeral = nought }

out : Name
out = record { text = codes "out"; is = refl }

abbrev pub at : Reg → Number → Address
at base off = record { base = base; off = off }

-- ---- completed fronts

-- an ending makes a form of the front that has no fault of this kind
pub record Completed (fault : LineFault) (front : List Token) : Type 0 where
  pub ending : List ℕ
  pub is : is_ending ending ≡ true
  pub form : Form
  pub spelled : form_tokens form ≡ front ++ tokens ending
  pub passed : passes fault (Some (form_said form)) ≡ true

pub by : {fault : LineFault} {front : List Token} (ending : List ℕ) → is_ending ending ≡ true → (form : Form) → form_tokens form ≡ front ++ tokens ending → passes fault (Some (form_said form)) ≡ true → Completed fault front
by ending is form spelled passed = record { ending = ending; is = is; form = form; spelled = spelled; passed = passed }

-- the same, where the front is said
by_at : {fault : LineFault} (front : List Token) (ending : List ℕ) → is_ending ending ≡ true → (form : Form) → form_tokens form ≡ front ++ tokens ending → passes fault (Some (form_said form)) ≡ true → Completed fault front
by_at front ending is form spelled passed = by ending is form spelled passed

-- a form whose numbers are in their ranges passes
pub safe : (fault : LineFault) (form : Form) → is_some (form_said form) ≡ true → passes fault (Some (form_said form)) ≡ true
safe NoForm form h = refl
safe OutOfRange form h = h

-- and one whose numbers are in their ranges if another's are
pub keeps : (fault : LineFault) (form other : Form) → (is_some (form_said form) ≡ true → is_some (form_said other) ≡ true) → passes fault (Some (form_said form)) ≡ true → passes fault (Some (form_said other)) ≡ true
keeps NoForm form other f h = refl
keeps OutOfRange form other f h = f h

pub exits : (fault : LineFault) → Completed fault []
unfolding endings
exits fault = by (codes "exit") refl Form.exit refl (safe fault Form.exit refl)

-- ---- numbers and targets

-- behind a sign or not, a constant
pub constant_fronts : (P : List Token → Type 0) (minus : Bool) (digits : List ℕ) → P [] → P (mark 45 ∷ []) → P (cond minus (mark 45 ∷ word digits ∷ []) (word digits ∷ [])) → Fronts P (cond minus (mark 45 ∷ word digits ∷ []) (word digits ∷ []))
constant_fronts P true digits h m f = (h, (m, f))
constant_fronts P false digits h m f = (h, f)

target_fronts : (P : List Token → Type 0) (target : Target) → P [] → ((minus : Bool) → P (mark (cond minus 45 43) ∷ [])) → P (target_tokens target) → Fronts P (target_tokens target)
target_fronts P (Target.distance n) h m f = (h, (m n.minus, f))
target_fronts P (Target.label name) h m f = (h, f)

-- ---- arithmetic

abbrev calculates : AluOp → Width → Reg → Bool → Form
calculates op width dst minus = Form.calculate op width dst (OperandForm.constant (small minus))

calculated : (fault : LineFault) (op : AluOp) (width : Width) (dst : Reg) (minus : Bool) → passes fault (Some (form_said (calculates op width dst minus))) ≡ true
unfolding five
calculated fault op width dst true = safe fault (calculates op width dst true) refl
calculated fault op width dst false = safe fault (calculates op width dst false) refl

pub assigns : (fault : LineFault) (width : Width) (dst : Reg) → Completed fault (word (register_text width dst) ∷ [])
unfolding endings five
assigns fault width dst = by (codes "= 5") refl (calculates Mov width dst false) refl (calculated fault Mov width dst false)

-- behind `=`, and behind `= -`
pub assigned : (fault : LineFault) (width : Width) (dst : Reg) → Completed fault (word (register_text width dst) ∷ mark 61 ∷ [])
unfolding endings five
assigned fault width dst = by (codes "5") refl (calculates Mov width dst false) refl (calculated fault Mov width dst false)

negative : (fault : LineFault) (width : Width) (dst : Reg) → Completed fault (word (register_text width dst) ∷ mark 61 ∷ mark 45 ∷ [])
unfolding endings five
negative fault width dst = by (codes "5") refl (calculates Mov width dst true) refl (calculated fault Mov width dst true)

divides : (fault : LineFault) (width : Width) (dst : Reg) → Completed fault (word (register_text width dst) ∷ word (codes "s") ∷ [])
unfolding endings five
divides fault width dst = by (codes "/= 5") refl (calculates SDiv width dst false) refl (calculated fault SDiv width dst false)

-- the marks of an operation
op_fronts : (fault : LineFault) (op : AluOp) (width : Width) (dst : Reg) → Fronts (λ f. Completed fault (word (register_text width dst) ∷ f)) (tokens (operation_text op))
unfolding endings five
op_fronts fault Add width dst = (assigns fault width dst, (by (codes "= 5") refl (calculates Add width dst false) refl (calculated fault Add width dst false), by (codes "5") refl (calculates Add width dst false) refl (calculated fault Add width dst false)))
op_fronts fault Sub width dst = (assigns fault width dst, (by (codes "= 5") refl (calculates Sub width dst false) refl (calculated fault Sub width dst false), by (codes "5") refl (calculates Sub width dst false) refl (calculated fault Sub width dst false)))
op_fronts fault Mul width dst = (assigns fault width dst, (by (codes "= 5") refl (calculates Mul width dst false) refl (calculated fault Mul width dst false), by (codes "5") refl (calculates Mul width dst false) refl (calculated fault Mul width dst false)))
op_fronts fault Div width dst = (assigns fault width dst, (by (codes "= 5") refl (calculates Div width dst false) refl (calculated fault Div width dst false), by (codes "5") refl (calculates Div width dst false) refl (calculated fault Div width dst false)))
op_fronts fault Or width dst = (assigns fault width dst, (by (codes "= 5") refl (calculates Or width dst false) refl (calculated fault Or width dst false), by (codes "5") refl (calculates Or width dst false) refl (calculated fault Or width dst false)))
op_fronts fault And width dst = (assigns fault width dst, (by (codes "= 5") refl (calculates And width dst false) refl (calculated fault And width dst false), by (codes "5") refl (calculates And width dst false) refl (calculated fault And width dst false)))
op_fronts fault Mod width dst = (assigns fault width dst, (by (codes "= 5") refl (calculates Mod width dst false) refl (calculated fault Mod width dst false), by (codes "5") refl (calculates Mod width dst false) refl (calculated fault Mod width dst false)))
op_fronts fault Xor width dst = (assigns fault width dst, (by (codes "= 5") refl (calculates Xor width dst false) refl (calculated fault Xor width dst false), by (codes "5") refl (calculates Xor width dst false) refl (calculated fault Xor width dst false)))
op_fronts fault Mov width dst = (assigns fault width dst, assigned fault width dst)
op_fronts fault SDiv width dst = (assigns fault width dst, (divides fault width dst, (by (codes "= 5") refl (calculates SDiv width dst false) refl (calculated fault SDiv width dst false), by (codes "5") refl (calculates SDiv width dst false) refl (calculated fault SDiv width dst false))))
op_fronts fault SMod width dst = (assigns fault width dst, (divides fault width dst, (by (codes "= 5") refl (calculates SMod width dst false) refl (calculated fault SMod width dst false), by (codes "5") refl (calculates SMod width dst false) refl (calculated fault SMod width dst false))))
op_fronts fault Lsh width dst = (assigns fault width dst, (by (codes "<= 5") refl (calculates Lsh width dst false) refl (calculated fault Lsh width dst false), (by (codes "= 5") refl (calculates Lsh width dst false) refl (calculated fault Lsh width dst false), by (codes "5") refl (calculates Lsh width dst false) refl (calculated fault Lsh width dst false))))
op_fronts fault Rsh width dst = (assigns fault width dst, (by (codes ">= 5") refl (calculates Rsh width dst false) refl (calculated fault Rsh width dst false), (by (codes "= 5") refl (calculates Rsh width dst false) refl (calculated fault Rsh width dst false), by (codes "5") refl (calculates Rsh width dst false) refl (calculated fault Rsh width dst false))))
op_fronts fault Arsh width dst = (assigns fault width dst, (divides fault width dst, (by (codes ">= 5") refl (calculates Arsh width dst false) refl (calculated fault Arsh width dst false), (by (codes "= 5") refl (calculates Arsh width dst false) refl (calculated fault Arsh width dst false), by (codes "5") refl (calculates Arsh width dst false) refl (calculated fault Arsh width dst false)))))

-- an operand
behind_op : (op : AluOp) (width : Width) (dst : Reg) (f more : List Token) → word (register_text width dst) ∷ (tokens (operation_text op) ++ (f ++ more)) ≡ (word (register_text width dst) ∷ (tokens (operation_text op) ++ f)) ++ more
behind_op op width dst f more = ap (λ z. word (register_text width dst) ∷ z) (sym (append_assoc (tokens (operation_text op)) f more))

operand_fronts : (fault : LineFault) (op : AluOp) (width : Width) (dst : Reg) (src : OperandForm) → passes fault (Some (form_said (Form.calculate op width dst src))) ≡ true → Fronts (λ f. Completed fault (word (register_text width dst) ∷ (tokens (operation_text op) ++ f))) (operand_tokens width src)
unfolding endings five
operand_fronts fault op width dst (OperandForm.register r) h = (
  by (codes "5") refl (calculates op width dst false) (behind_op op width dst [] (tokens (codes "5"))) (calculated fault op width dst false),
  by [] refl (Form.calculate op width dst (OperandForm.register r)) (behind_op op width dst (word (register_text width r) ∷ []) []) h,
)
operand_fronts fault op width dst (OperandForm.constant n) h =
    constant_fronts (λ f. Completed fault (word (register_text width dst) ∷ (tokens (operation_text op) ++ f))) n.minus n.numeral.digits
    (by (codes "5") refl (calculates op width dst false) (behind_op op width dst [] (tokens (codes "5"))) (calculated fault op width dst false))
    (by (codes "5") refl (calculates op width dst true) (behind_op op width dst (mark 45 ∷ []) (tokens (codes "5"))) (calculated fault op width dst true))
    (by [] refl (Form.calculate op width dst (OperandForm.constant n)) (ap (λ z. word (register_text width dst) ∷ (tokens (operation_text op) ++ z)) (sym (append-nil (constant_tokens n))) ∙ behind_op op width dst (constant_tokens n) []) h)

pub calculate_fronts : (fault : LineFault) (op : AluOp) (width : Width) (dst : Reg) (src : OperandForm) → passes fault (Some (form_said (Form.calculate op width dst src))) ≡ true → Fronts (Completed fault) (form_tokens (Form.calculate op width dst src))
calculate_fronts fault op width dst src h = (exits fault, joined (λ f. Completed fault (word (register_text width dst) ∷ f)) (tokens (operation_text op)) (operand_tokens width src) (op_fronts fault op width dst) (operand_fronts fault op width dst src h))

-- ---- negation, moves with sign, byte swaps, 64-bit constants

pub negate_fronts : (fault : LineFault) (width : Width) (dst : Reg) → Fronts (Completed fault) (form_tokens (Form.negate width dst))
unfolding endings
negate_fronts fault width dst = (exits fault, (assigns fault width dst, (assigned fault width dst, (negative fault width dst, by [] refl (Form.negate width dst) refl (safe fault (Form.negate width dst) refl)))))

pub extend_fronts : (fault : LineFault) (width : Width) (bits : SignBits) (is : is_extension width bits ≡ true) (dst src : Reg) → Fronts (Completed fault) (form_tokens (Form.extend width bits is dst src))
unfolding endings
extend_fronts fault W64 bits is dst src = (
  exits fault,
  (
    assigns fault W64 dst,
    (
      assigned fault W64 dst,
      (
        by (codes "s8)r1") refl (Form.extend W64 S8 refl dst R1) refl (safe fault (Form.extend W64 S8 refl dst R1) refl),
        (
          by (codes ")r1") refl (Form.extend W64 bits is dst R1) refl (safe fault (Form.extend W64 bits is dst R1) refl),
          (
            by (codes "r1") refl (Form.extend W64 bits is dst R1) refl (safe fault (Form.extend W64 bits is dst R1) refl),
            by [] refl (Form.extend W64 bits is dst src) refl (safe fault (Form.extend W64 bits is dst src) refl),
          ),
        ),
      ),
    ),
  ),
)
extend_fronts fault W32 bits is dst src = (
  exits fault,
  (
    assigns fault W32 dst,
    (
      assigned fault W32 dst,
      (
        by (codes "s8)w1") refl (Form.extend W32 S8 refl dst R1) refl (safe fault (Form.extend W32 S8 refl dst R1) refl),
        (
          by (codes ")w1") refl (Form.extend W32 bits is dst R1) refl (safe fault (Form.extend W32 bits is dst R1) refl),
          (
            by (codes "w1") refl (Form.extend W32 bits is dst R1) refl (safe fault (Form.extend W32 bits is dst R1) refl),
            by [] refl (Form.extend W32 bits is dst src) refl (safe fault (Form.extend W32 bits is dst src) refl),
          ),
        ),
      ),
    ),
  ),
)

-- the register once more
register_ends : (dst : Reg) → is_ending (register_text W64 dst) ≡ true
unfolding endings
register_ends R0 = refl
register_ends R1 = refl
register_ends R2 = refl
register_ends R3 = refl
register_ends R4 = refl
register_ends R5 = refl
register_ends R6 = refl
register_ends R7 = refl
register_ends R8 = refl
register_ends R9 = refl
register_ends R10 = refl

register_is_word : (dst : Reg) → register_tokens W64 dst ≡ tokens (register_text W64 dst)
register_is_word R0 = refl
register_is_word R1 = refl
register_is_word R2 = refl
register_is_word R3 = refl
register_is_word R4 = refl
register_is_word R5 = refl
register_is_word R6 = refl
register_is_word R7 = refl
register_is_word R8 = refl
register_is_word R9 = refl
register_is_word R10 = refl

pub swap_fronts : (fault : LineFault) (kind : EndKind) (bits : EndBits) (dst : Reg) → Fronts (Completed fault) (form_tokens (Form.swap kind bits dst))
unfolding endings
swap_fronts fault kind bits dst = (
  exits fault,
  (
    assigns fault W64 dst,
    (
      assigned fault W64 dst,
      (
        by (register_text W64 dst) (register_ends dst) (Form.swap kind bits dst) (ap (λ z. word (register_text W64 dst) ∷ mark 61 ∷ word (swap_text kind bits) ∷ z) (register_is_word dst)) (safe fault (Form.swap kind bits dst) refl),
        by [] refl (Form.swap kind bits dst) refl (safe fault (Form.swap kind bits dst) refl),
      ),
    ),
  ),
)

pub wide_fronts : (fault : LineFault) (dst : Reg) (n : Number) → passes fault (Some (form_said (Form.load_constant dst n))) ≡ true → Fronts (Completed fault) (form_tokens (Form.load_constant dst n))
unfolding endings
wide_fronts fault dst n h = (
  exits fault,
  (
    assigns fault W64 dst,
    joined (λ f. Completed fault (word (register_text W64 dst) ∷ mark 61 ∷ f)) (constant_tokens n) (tokens (codes "ll"))
        (constant_fronts (λ f. Completed fault (word (register_text W64 dst) ∷ mark 61 ∷ f)) n.minus n.numeral.digits (assigned fault W64 dst) (negative fault W64 dst) number) (
          subst (λ z. Completed fault (word (register_text W64 dst) ∷ mark 61 ∷ z)) (sym (append-nil (constant_tokens n))) number,
          by [] refl (Form.load_constant dst n) (ap (λ z. word (register_text W64 dst) ∷ mark 61 ∷ z) (sym (append-nil (constant_tokens n ++ tokens (codes "ll"))))) h,
        ),
  ),
)
  where
    number : Completed fault (word (register_text W64 dst) ∷ mark 61 ∷ constant_tokens n)
    number = by (codes "ll") refl (Form.load_constant dst n) refl h

-- ---- jumps and calls

short : (minus : Bool) → is_some (fits_16 (number_value (small minus))) ≡ true
unfolding five
short true = refl
short false = refl

long : (minus : Bool) → is_some (fits_32 (number_value (small minus))) ≡ true
unfolding five
long true = refl
long false = refl

mapped : {A B : Type 0} (f : A → B) (o : Option A) → is_some o ≡ true → is_some (option_map f o) ≡ true
mapped f (Some x) h = refl
mapped f None h = h

abbrev away : Bool → Target
away minus = Target.distance (small minus)

pub goto_fronts : (fault : LineFault) (target : Target) → passes fault (Some (form_said (Form.goto target))) ≡ true → Fronts (Completed fault) (form_tokens (Form.goto target))
unfolding endings five out
goto_fronts fault target h = (
  exits fault,
  target_fronts (λ f. Completed fault (word (codes "goto") ∷ f)) target
      (by (codes "out") refl (Form.goto (Target.label out)) refl (safe fault (Form.goto (Target.label out)) refl))
      (λ minus. by (codes "5") refl (Form.goto (away minus)) refl (safe fault (Form.goto (away minus)) (mapped plain (option_map Ja (fits_16 (number_value (small minus)))) (mapped Ja (fits_16 (number_value (small minus))) (short minus)))))
      (by [] refl (Form.goto target) (ap (λ z. word (codes "goto") ∷ z) (sym (append-nil (target_tokens target)))) h),
)

pub goto_long_fronts : (fault : LineFault) (target : Target) → passes fault (Some (form_said (Form.goto_long target))) ≡ true → Fronts (Completed fault) (form_tokens (Form.goto_long target))
unfolding endings five out
goto_long_fronts fault target h = (
  exits fault,
  target_fronts (λ f. Completed fault (word (codes "gotol") ∷ f)) target
      (by (codes "out") refl (Form.goto_long (Target.label out)) refl (safe fault (Form.goto_long (Target.label out)) refl))
      (λ minus. by (codes "5") refl (Form.goto_long (away minus)) refl (safe fault (Form.goto_long (away minus)) (mapped plain (option_map JaLong (fits_32 (number_value (small minus)))) (mapped JaLong (fits_32 (number_value (small minus))) (long minus)))))
      (by [] refl (Form.goto_long target) (ap (λ z. word (codes "gotol") ∷ z) (sym (append-nil (target_tokens target)))) h),
)

pub call_fronts : (fault : LineFault) (target : Target) → passes fault (Some (form_said (Form.call target))) ≡ true → Fronts (Completed fault) (form_tokens (Form.call target))
unfolding endings five out
call_fronts fault target h = (
  exits fault,
  target_fronts (λ f. Completed fault (word (codes "call") ∷ f)) target
      (by (codes "out") refl (Form.call (Target.label out)) refl (safe fault (Form.call (Target.label out)) refl))
      (λ minus. by (codes "5") refl (Form.call (away minus)) refl (safe fault (Form.call (away minus)) (mapped plain (option_map CallLocal (fits_32 (number_value (small minus)))) (mapped CallLocal (fits_32 (number_value (small minus))) (long minus)))))
      (by [] refl (Form.call target) (ap (λ z. word (codes "call") ∷ z) (sym (append-nil (target_tokens target)))) h),
)

-- ---- conditional jumps

abbrev tests : Cond → Width → Reg → Bool → Form
tests test width dst minus = Form.branch test width dst (OperandForm.constant (small minus)) (Target.label out)

tested : (fault : LineFault) (test : Cond) (width : Width) (dst : Reg) (minus : Bool) → passes fault (Some (form_said (tests test width dst minus))) ≡ true
unfolding five out
tested fault test width dst true = safe fault (tests test width dst true) refl
tested fault test width dst false = safe fault (tests test width dst false) refl

test_begins : (fault : LineFault) (width : Width) (dst : Reg) → Completed fault (word (codes "if") ∷ word (register_text width dst) ∷ [])
unfolding endings five out
test_begins fault width dst = by (codes "== 5 goto out") refl (tests Eq width dst false) refl (tested fault Eq width dst false)

signed_test : (fault : LineFault) (width : Width) (dst : Reg) → Completed fault (word (codes "if") ∷ word (register_text width dst) ∷ word (codes "s") ∷ [])
unfolding endings five out
signed_test fault width dst = by (codes "> 5 goto out") refl (tests SGt width dst false) refl (tested fault SGt width dst false)

cond_fronts : (fault : LineFault) (test : Cond) (width : Width) (dst : Reg) → Fronts (λ f. Completed fault (word (codes "if") ∷ word (register_text width dst) ∷ f)) (tokens (cond_text test))
unfolding endings five out
cond_fronts fault Eq width dst = (test_begins fault width dst, (by (codes "= 5 goto out") refl (tests Eq width dst false) refl (tested fault Eq width dst false), by (codes "5 goto out") refl (tests Eq width dst false) refl (tested fault Eq width dst false)))
cond_fronts fault Gt width dst = (test_begins fault width dst, by (codes "5 goto out") refl (tests Gt width dst false) refl (tested fault Gt width dst false))
cond_fronts fault Ge width dst = (test_begins fault width dst, (by (codes "5 goto out") refl (tests Gt width dst false) refl (tested fault Gt width dst false), by (codes "5 goto out") refl (tests Ge width dst false) refl (tested fault Ge width dst false)))
cond_fronts fault Set width dst = (test_begins fault width dst, by (codes "5 goto out") refl (tests Set width dst false) refl (tested fault Set width dst false))
cond_fronts fault Ne width dst = (test_begins fault width dst, (by (codes "= 5 goto out") refl (tests Ne width dst false) refl (tested fault Ne width dst false), by (codes "5 goto out") refl (tests Ne width dst false) refl (tested fault Ne width dst false)))
cond_fronts fault SGt width dst = (test_begins fault width dst, (signed_test fault width dst, by (codes "5 goto out") refl (tests SGt width dst false) refl (tested fault SGt width dst false)))
cond_fronts fault SGe width dst = (test_begins fault width dst, (signed_test fault width dst, (by (codes "5 goto out") refl (tests SGt width dst false) refl (tested fault SGt width dst false), by (codes "5 goto out") refl (tests SGe width dst false) refl (tested fault SGe width dst false))))
cond_fronts fault Lt width dst = (test_begins fault width dst, by (codes "5 goto out") refl (tests Lt width dst false) refl (tested fault Lt width dst false))
cond_fronts fault Le width dst = (test_begins fault width dst, (by (codes "5 goto out") refl (tests Lt width dst false) refl (tested fault Lt width dst false), by (codes "5 goto out") refl (tests Le width dst false) refl (tested fault Le width dst false)))
cond_fronts fault SLt width dst = (test_begins fault width dst, (signed_test fault width dst, by (codes "5 goto out") refl (tests SLt width dst false) refl (tested fault SLt width dst false)))
cond_fronts fault SLe width dst = (test_begins fault width dst, (signed_test fault width dst, (by (codes "5 goto out") refl (tests SLt width dst false) refl (tested fault SLt width dst false), by (codes "5 goto out") refl (tests SLe width dst false) refl (tested fault SLe width dst false))))

-- the tokens, grouped from the right
grouped : (test : Cond) (width : Width) (dst : Reg) (src : OperandForm) (target : Target) → form_tokens (Form.branch test width dst src target) ≡ word (codes "if") ∷ word (register_text width dst) ∷ (tokens (cond_text test) ++ (operand_tokens width src ++ word (codes "goto") ∷ target_tokens target))
grouped test width dst src target = ap (λ z. word (codes "if") ∷ word (register_text width dst) ∷ z)
    (append_assoc (tokens (cond_text test) ++ operand_tokens width src) (word (codes "goto") ∷ []) (target_tokens target) ∙ append_assoc (tokens (cond_text test)) (operand_tokens width src) (word (codes "goto") ∷ target_tokens target))

behind_test : (test : Cond) (width : Width) (dst : Reg) (f more : List Token) → word (codes "if") ∷ word (register_text width dst) ∷ (tokens (cond_text test) ++ (f ++ more)) ≡ (word (codes "if") ∷ word (register_text width dst) ∷ (tokens (cond_text test) ++ f)) ++ more
behind_test test width dst f more = ap (λ z. word (codes "if") ∷ word (register_text width dst) ∷ z) (sym (append_assoc (tokens (cond_text test)) f more))

branch_keeps : (test : Cond) (width : Width) (dst : Reg) (src : Option Operand) (target other : Target) → ((x : Operand) → is_some (target_said (OnTest test width dst x) other) ≡ true) → is_some (branch_said test width dst src target) ≡ true → is_some (branch_said test width dst src other) ≡ true
branch_keeps test width dst (Some x) target other f h = f x
branch_keeps test width dst None target other f h = h

branched_out : (fault : LineFault) (test : Cond) (width : Width) (dst : Reg) (src : OperandForm) (target : Target) → passes fault (Some (form_said (Form.branch test width dst src target))) ≡ true → passes fault (Some (form_said (Form.branch test width dst src (Target.label out)))) ≡ true
branched_out fault test width dst src target h = keeps fault (Form.branch test width dst src target) (Form.branch test width dst src (Target.label out)) (branch_keeps test width dst (operand_said src) target (Target.label out) (λ x. refl)) h

branched_away : (fault : LineFault) (test : Cond) (width : Width) (dst : Reg) (src : OperandForm) (target : Target) (minus : Bool) → passes fault (Some (form_said (Form.branch test width dst src target))) ≡ true → passes fault (Some (form_said (Form.branch test width dst src (away minus)))) ≡ true
branched_away fault test width dst src target minus h = keeps fault (Form.branch test width dst src target) (Form.branch test width dst src (away minus)) (branch_keeps test width dst (operand_said src) target (away minus) (λ x. mapped plain (option_map (JumpIf test width dst x) (fits_16 (number_value (small minus)))) (mapped (JumpIf test width dst x) (fits_16 (number_value (small minus))) (short minus)))) h

compared_fronts : (fault : LineFault) (test : Cond) (width : Width) (dst : Reg) (src : OperandForm) (target : Target) → passes fault (Some (form_said (Form.branch test width dst src target))) ≡ true
    → Fronts (λ f. Completed fault (word (codes "if") ∷ word (register_text width dst) ∷ (tokens (cond_text test) ++ f))) (operand_tokens width src)
unfolding endings five out
compared_fronts fault test width dst (OperandForm.register r) target h = (
  by_at (word (codes "if") ∷ word (register_text width dst) ∷ (tokens (cond_text test) ++ [])) (codes "5 goto out") refl (tests test width dst false) (grouped test width dst (OperandForm.constant (small false)) (Target.label out) ∙ behind_test test width dst [] (tokens (codes "5 goto out"))) (tested fault test width dst false),
  by_at (word (codes "if") ∷ word (register_text width dst) ∷ (tokens (cond_text test) ++ word (register_text width r) ∷ [])) (codes "goto out") refl (Form.branch test width dst (OperandForm.register r) (Target.label out)) (grouped test width dst (OperandForm.register r) (Target.label out) ∙ behind_test test width dst (word (register_text width r) ∷ []) (tokens (codes "goto out"))) (branched_out fault test width dst (OperandForm.register r) target h),
)
compared_fronts fault test width dst (OperandForm.constant n) target h =
    constant_fronts (λ f. Completed fault (word (codes "if") ∷ word (register_text width dst) ∷ (tokens (cond_text test) ++ f))) n.minus n.numeral.digits
    (by_at (word (codes "if") ∷ word (register_text width dst) ∷ (tokens (cond_text test) ++ [])) (codes "5 goto out") refl (tests test width dst false) (grouped test width dst (OperandForm.constant (small false)) (Target.label out) ∙ behind_test test width dst [] (tokens (codes "5 goto out"))) (tested fault test width dst false))
    (by_at (word (codes "if") ∷ word (register_text width dst) ∷ (tokens (cond_text test) ++ mark 45 ∷ [])) (codes "5 goto out") refl (tests test width dst true) (grouped test width dst (OperandForm.constant (small true)) (Target.label out) ∙ behind_test test width dst (mark 45 ∷ []) (tokens (codes "5 goto out"))) (tested fault test width dst true))
    (by_at (word (codes "if") ∷ word (register_text width dst) ∷ (tokens (cond_text test) ++ constant_tokens n)) (codes "goto out") refl (Form.branch test width dst (OperandForm.constant n) (Target.label out)) (grouped test width dst (OperandForm.constant n) (Target.label out) ∙ behind_test test width dst (constant_tokens n) (tokens (codes "goto out"))) (branched_out fault test width dst (OperandForm.constant n) target h))

-- behind the operand
behind_operand : (test : Cond) (width : Width) (dst : Reg) (src : OperandForm) (f more : List Token) → word (codes "if") ∷ word (register_text width dst) ∷ (tokens (cond_text test) ++ (operand_tokens width src ++ (f ++ more))) ≡ (word (codes "if") ∷ word (register_text width dst) ∷ (tokens (cond_text test) ++ (operand_tokens width src ++ f))) ++ more
behind_operand test width dst src f more = ap (λ z. word (codes "if") ∷ word (register_text width dst) ∷ (tokens (cond_text test) ++ z)) (sym (append_assoc (operand_tokens width src) f more)) ∙ behind_test test width dst (operand_tokens width src ++ f) more

branch_ends : (fault : LineFault) (test : Cond) (width : Width) (dst : Reg) (src : OperandForm) (target : Target) → passes fault (Some (form_said (Form.branch test width dst src target))) ≡ true
    → Fronts (λ f. Completed fault (word (codes "if") ∷ word (register_text width dst) ∷ (tokens (cond_text test) ++ (operand_tokens width src ++ f)))) (word (codes "goto") ∷ target_tokens target)
unfolding endings five out
branch_ends fault test width dst src target h = (
  by_at (word (codes "if") ∷ word (register_text width dst) ∷ (tokens (cond_text test) ++ (operand_tokens width src ++ []))) (codes "goto out") refl (Form.branch test width dst src (Target.label out)) (grouped test width dst src (Target.label out) ∙ behind_operand test width dst src [] (tokens (codes "goto out"))) (branched_out fault test width dst src target h),
  target_fronts (λ f. Completed fault (word (codes "if") ∷ word (register_text width dst) ∷ (tokens (cond_text test) ++ (operand_tokens width src ++ word (codes "goto") ∷ f)))) target
      (by_at (word (codes "if") ∷ word (register_text width dst) ∷ (tokens (cond_text test) ++ (operand_tokens width src ++ word (codes "goto") ∷ []))) (codes "out") refl (Form.branch test width dst src (Target.label out)) (grouped test width dst src (Target.label out) ∙ behind_operand test width dst src (word (codes "goto") ∷ []) (tokens (codes "out"))) (branched_out fault test width dst src target h))
      (λ minus. by (codes "5") refl (Form.branch test width dst src (away minus)) (grouped test width dst src (away minus) ∙ behind_operand test width dst src (word (codes "goto") ∷ mark (cond minus 45 43) ∷ []) (tokens (codes "5"))) (branched_away fault test width dst src target minus h))
      (by [] refl (Form.branch test width dst src target) (grouped test width dst src target ∙ ap (λ z. word (codes "if") ∷ word (register_text width dst) ∷ (tokens (cond_text test) ++ (operand_tokens width src ++ word (codes "goto") ∷ z))) (sym (append-nil (target_tokens target))) ∙ behind_operand test width dst src (word (codes "goto") ∷ target_tokens target) []) h),
)

pub branch_fronts : (fault : LineFault) (test : Cond) (width : Width) (dst : Reg) (src : OperandForm) (target : Target) → passes fault (Some (form_said (Form.branch test width dst src target))) ≡ true → Fronts (Completed fault) (form_tokens (Form.branch test width dst src target))
unfolding endings five out
branch_fronts fault test width dst src target h = subst (Fronts (Completed fault)) (sym (grouped test width dst src target)) (
  exits fault,
  (
    by (codes "r1 == 5 goto out") refl (tests Eq W64 R1 false) refl (tested fault Eq W64 R1 false),
    joined (λ f. Completed fault (word (codes "if") ∷ word (register_text width dst) ∷ f)) (tokens (cond_text test)) (operand_tokens width src ++ (word (codes "goto") ∷ target_tokens target)) (cond_fronts fault test width dst)
        (joined (λ f. Completed fault (word (codes "if") ∷ word (register_text width dst) ∷ (tokens (cond_text test) ++ f))) (operand_tokens width src) (word (codes "goto") ∷ target_tokens target) (compared_fronts fault test width dst src target h) (branch_ends fault test width dst src target h)),
  ),
)
