-- What is read of tokens in front is the spelling of a part of a form, and is what the part is.
use Rattle.std.proofs.Common.{◌≡◌, ℕ, Bool, true, false, cond, eqb, List, [], ◌∷◌, ◌++◌, Option, Some, None, option_map, refl, ap, subst, ◌∙◌}
use Rattle.std.specs.Prelude.{codes, pos, neg_ℤ}
use Rattle.std.specs.List.{list_all}
use Rattle.std.specs.Str.{bytes_eq}
use Rattle.std.proofs.lemmas.Bool.{eqb-true}
use Rattle.std.proofs.lemmas.Slice.Eq.{bytes_eq-Decides}
use Rattle.bpf_insn.specs.declared.instruction.Reg.{Reg}
use Rattle.bpf_insn.specs.declared.instruction.Reg.TheVariants.{R0, R1, R2, R3, R4, R5, R6, R7, R8, R9, R10}
use Rattle.bpf_insn.specs.declared.instruction.Size.TheVariants.{B, H, W, DW}
use Rattle.bpf_insn.specs.declared.instruction.Width.{Width}
use Rattle.bpf_insn.specs.declared.instruction.Width.TheVariants.{W32, W64}
use Rattle.bpf_insn.specs.declared.instruction.Operand.TheVariants.{Imm, Reg as FromReg}
use Rattle.bpf_insn.specs.declared.instruction.SignBits.{SignBits}
use Rattle.bpf_insn.specs.declared.instruction.SignBits.TheVariants.{B8 as S8, B16 as S16, B32 as S32}
use Rattle.bpf_insn.specs.declared.instruction.EndKind.{EndKind}
use Rattle.bpf_insn.specs.declared.instruction.EndKind.TheVariants.{Le as ToLe, Be as ToBe, Swap as Swaps}
use Rattle.bpf_insn.specs.declared.instruction.EndBits.{EndBits}
use Rattle.bpf_insn.specs.declared.instruction.EndBits.TheVariants.{B16 as E16, B32 as E32, B64 as E64}
use Rattle.bpf_text.specs.declared.spelling.Memory.{Memory}
use Rattle.bpf_text.specs.declared.spelling.Memory.TheVariants.{Unsigned, Signed}
use Rattle.bpf_text.specs.declared.spelling.Keyword.TheVariants as keyword
use Rattle.bpf_text.specs.declared.statement.memory.MemoryOperand.{MemoryOperand}
use Rattle.bpf_text.specs.declared.statement.Jump.{Jump}
use Rattle.bpf_text.specs.Parts.{registers, memories, register_spelling, memory_text}
use Rattle.bpf_text.specs.code.WordReading.{◌>>=◌, or_else}
use Rattle.bpf_text.specs.Numerals.{word_value}
use Rattle.bpf_text.specs.Spelling.{register_text, sign_bits_text, swap_text}
use Rattle.bpf_text.specs.Statements.{plain, to_label}
use Rattle.bpf_text.specs.code.StatementReading.{first_way, same_width}
use Rattle.bpf_text.specs.Numerals.{fits_16, fits_32}
use Rattle.bpf_text.specs.Statements.{jump_by}
use Rattle.bpf_text.specs.Characters.{is_name}
use Rattle.bpf_text.specs.Grammar.{Token, tokens, Numeral, number_value, constant_tokens, signed_tokens, Address, Target, one_word, operand_tokens, address_tokens, target_tokens, is_loaded, operand_said, offset_said, target_said}
use Rattle.bpf_text.specs.Grammar.{OperandForm}
use Rattle.bpf_text.specs.Grammar.Token.{word, mark}
use Rattle.bpf_text.proofs.TokenLemmas.{word_t, mark_t, strip, first_t}
use Rattle.bpf_text.proofs.TokenReading.{unsigned_t, number_behind_t, number_t, signed_behind_t, signed_t, any_register_t, register_t, operand_t, place_t, name_t, target_t}
use Rattle.bpf_text.proofs.WordLemmas.{both_true}

-- ---- what is there has the property

pub record Gives {A : Type 0} (o : Option A) (P : A → Type 0) : Type 0 where
  pub holds : (x : A) → o ≡ Some x → P x

pub none_gives : {A : Type 0} {P : A → Type 0} → Gives None P
none_gives = record { holds = λ x e. absurd (cc) }

pub some_gives : {A : Type 0} {P : A → Type 0} (y : A) → P y → Gives (Some y) P
some_gives {P = P} y h = record { holds = λ x e. subst P (let same : y ≡ x = cc in same) h }

pub then_gives : {A B : Type 0} {o : Option A} (f : A → Option B) {P : A → Type 0} {Q : B → Type 0} → Gives o P → ((x : A) → P x → Gives (f x) Q) → Gives (o >>= f) Q
then_gives {o = None} f g k = none_gives
then_gives {o = Some x} f g k = k x (g.holds x refl)

-- what is read by the way is of no interest here
pub any_then : {A B : Type 0} (o : Option A) (f : A → Option B) {Q : B → Type 0} → ((x : A) → o ≡ Some x → Gives (f x) Q) → Gives (o >>= f) Q
any_then None f k = none_gives
any_then (Some x) f k = k x refl

pub way_gives : {A B : Type 0} {o : Option A} (f : A → Option B) {other : Option B} {P : A → Type 0} {Q : B → Type 0} → Gives o P → ((x : A) → P x → Gives (f x) Q) → Gives other Q → Gives (first_way o f other) Q
way_gives {o = None} f g k h = h
way_gives {o = Some x} f g k h = k x (g.holds x refl)

pub if_gives : {A : Type 0} {o : Option A} {P : A → Type 0} (b : Bool) → (b ≡ true → Gives o P) → Gives (cond b o None) P
if_gives true h = h refl
if_gives false h = none_gives

both_give : {A : Type 0} {o : Option A} {P Q : A → Type 0} → Gives o P → Gives o Q → Gives o (λ x. P x × Q x)
both_give g h = record { holds = λ x e. (g.holds x e, h.holds x e) }

-- ---- words, marks and spellings

pub word_gives : (ts : List Token) → Gives (word_t ts) (λ p. ts ≡ word p.0 ∷ p.1)
unfolding word_t
word_gives [] = none_gives
word_gives (word w ∷ ts) = some_gives (w, ts) refl
word_gives (mark c ∷ ts) = none_gives

pub mark_gives : (m : ℕ) (ts : List Token) → Gives (mark_t m ts) (λ rest. ts ≡ mark m ∷ rest)
unfolding mark_t
mark_gives m [] = none_gives
mark_gives m (word w ∷ ts) = none_gives
mark_gives m (mark c ∷ ts) = if_gives (eqb c m) (λ e. some_gives ts (ap (λ x. mark x ∷ ts) (eqb-true c m e)))

pub strip_gives : (us ts : List Token) → Gives (strip us ts) (λ rest. ts ≡ us ++ rest)
unfolding strip
strip_gives [] ts = some_gives ts refl
strip_gives (word w ∷ us) ts = then_gives _ (word_gives ts) (λ found h. if_gives (bytes_eq found.0 w) (λ e.
    record { holds = λ rest there. h ∙ ap (λ v. word v ∷ found.1) ((bytes_eq-Decides found.0 w).0 e) ∙ ap (λ z. word w ∷ z) ((strip_gives us found.1).holds rest there) }))
strip_gives (mark m ∷ us) ts = then_gives _ (mark_gives m ts) (λ behind h.
    record { holds = λ rest there. h ∙ ap (λ z. mark m ∷ z) ((strip_gives us behind).holds rest there) })

pub first_gives : {A : Type 0} (spelling : A → List ℕ) (xs : List A) (ts : List Token) → Gives (first_t spelling xs ts) (λ p. ts ≡ tokens (spelling p.0) ++ p.1)
unfolding first_t
first_gives spelling [] ts = none_gives
first_gives spelling (x ∷ xs) ts = go (strip_gives (tokens (spelling x)) ts) (first_gives spelling xs ts)
  where
    go : {o : Option (List Token)} → Gives o (λ rest. ts ≡ tokens (spelling x) ++ rest) → Gives (first_t spelling xs ts) (λ p. ts ≡ tokens (spelling p.0) ++ p.1)
        → Gives (or_else (option_map (λ rest. (x, rest)) o) (first_t spelling xs ts)) (λ p. ts ≡ tokens (spelling p.0) ++ p.1)
    go {o = None} g h = h
    go {o = Some rest} g h = some_gives (x, rest) (g.holds rest refl)

-- what is found passes a test that all pass
first_passes : {A : Type 0} (spelling : A → List ℕ) (good : A → Bool) (xs : List A) (ts : List Token) → list_all good xs ≡ true → Gives (first_t spelling xs ts) (λ p. good p.0 ≡ true)
unfolding first_t
first_passes spelling good [] ts all = none_gives
first_passes spelling good (x ∷ xs) ts all = let parts = both_true (good x) (list_all good xs) all in go (strip (tokens (spelling x)) ts) parts.0 (first_passes spelling good xs ts parts.1)
  where
    go : (o : Option (List Token)) → good x ≡ true → Gives (first_t spelling xs ts) (λ p. good p.0 ≡ true)
        → Gives (or_else (option_map (λ rest. (x, rest)) o) (first_t spelling xs ts)) (λ p. good p.0 ≡ true)
    go None e h = h
    go (Some rest) e h = some_gives (x, rest) e

pub register_token : (width : Width) (r : Reg) → tokens (register_text width r) ≡ one_word (register_text width r)
register_token W32 R0 = refl
register_token W32 R1 = refl
register_token W32 R2 = refl
register_token W32 R3 = refl
register_token W32 R4 = refl
register_token W32 R5 = refl
register_token W32 R6 = refl
register_token W32 R7 = refl
register_token W32 R8 = refl
register_token W32 R9 = refl
register_token W32 R10 = refl
register_token W64 R0 = refl
register_token W64 R1 = refl
register_token W64 R2 = refl
register_token W64 R3 = refl
register_token W64 R4 = refl
register_token W64 R5 = refl
register_token W64 R6 = refl
register_token W64 R7 = refl
register_token W64 R8 = refl
register_token W64 R9 = refl
register_token W64 R10 = refl

pub extension_token : (bits : SignBits) → tokens (sign_bits_text bits) ≡ one_word (sign_bits_text bits)
extension_token S8 = refl
extension_token S16 = refl
extension_token S32 = refl

pub swap_token : (kind : EndKind) (bits : EndBits) → tokens (swap_text kind bits) ≡ one_word (swap_text kind bits)
swap_token ToLe E16 = refl
swap_token ToLe E32 = refl
swap_token ToLe E64 = refl
swap_token ToBe E16 = refl
swap_token ToBe E32 = refl
swap_token ToBe E64 = refl
swap_token Swaps E16 = refl
swap_token Swaps E32 = refl
swap_token Swaps E64 = refl

pub memory_token : (memory : Memory) → tokens (memory_text memory) ≡ one_word (memory_text memory)
memory_token (Unsigned B) = refl
memory_token (Unsigned H) = refl
memory_token (Unsigned W) = refl
memory_token (Unsigned DW) = refl
memory_token (Signed B) = refl
memory_token (Signed H) = refl
memory_token (Signed W) = refl
memory_token (Signed DW) = refl

pub any_register_gives : (ts : List Token) → Gives (any_register_t ts) (λ p. ts ≡ word (register_text (p.0).0 (p.0).1) ∷ p.1)
unfolding any_register_t
any_register_gives ts = record { holds = λ p e. (first_gives register_spelling registers ts).holds p e ∙ ap (λ z. z ++ p.1) (register_token (p.0).0 (p.0).1) }

widths_same : (a b : Width) → same_width a b ≡ true → a ≡ b
widths_same W32 W32 e = refl
widths_same W32 W64 e = cc
widths_same W64 W32 e = cc
widths_same W64 W64 e = refl

pub register_gives : (width : Width) (ts : List Token) → Gives (register_t width ts) (λ p. ts ≡ word (register_text width p.0) ∷ p.1)
unfolding register_t
register_gives width ts = then_gives _ (any_register_gives ts) (λ r h. if_gives (same_width (r.0).0 width) (λ e.
    some_gives ((r.0).1, r.1) (h ∙ ap (λ w. word (register_text w (r.0).1) ∷ r.1) (widths_same (r.0).0 width e))))

-- ---- numbers, operands and places

-- what is read is this part of a form
pub record IsPart {A F : Type 0} (spelled : F → List Token) (said : F → A) (ts : List Token) (p : A × List Token) : Type 0 where
  pub part : F
  pub there : ts ≡ spelled part ++ p.1
  pub says : said part ≡ p.0

abbrev numeral_tokens : Numeral → List Token
numeral_tokens n = one_word n.digits

abbrev numeral_value : Numeral → ℕ
numeral_value n = n.value

pub numeral_gives : (ts : List Token) → Gives (unsigned_t ts) (IsPart numeral_tokens numeral_value ts)
unfolding unsigned_t
numeral_gives ts = then_gives _ (word_gives ts) (λ w h. any_then (word_value w.0) _ (λ n e. some_gives (n, w.1) (record { part = record { digits = w.0; value = n; is = e }; there = h; says = refl })))

number_gives : (ts : List Token) → Gives (number_t ts) (IsPart constant_tokens number_value ts)
unfolding number_t
number_gives ts = go (mark_gives 45 ts)
  where
    go : {o : Option (List Token)} → Gives o (λ rest. ts ≡ mark 45 ∷ rest) → Gives (number_behind_t o ts) (IsPart constant_tokens number_value ts)
    go {o = None} g = then_gives _ (numeral_gives ts) (λ n h. some_gives (pos n.0, n.1) (record { part = record { minus = false; numeral = h.part }; there = h.there; says = ap pos h.says }))
    go {o = Some rest} g = then_gives _ (numeral_gives rest) (λ n h. some_gives (neg_ℤ (pos n.0), n.1) (record { part = record { minus = true; numeral = h.part }; there = g.holds rest refl ∙ ap (λ z. mark 45 ∷ z) h.there; says = ap (λ z. neg_ℤ (pos z)) h.says }))

signed_gives : (ts : List Token) → Gives (signed_t ts) (IsPart signed_tokens number_value ts)
unfolding signed_t
signed_gives ts = go (mark_gives 45 ts)
  where
    go : {o : Option (List Token)} → Gives o (λ rest. ts ≡ mark 45 ∷ rest) → Gives (signed_behind_t o ts) (IsPart signed_tokens number_value ts)
    go {o = None} g = then_gives _ (mark_gives 43 ts) (λ rest there. then_gives _ (numeral_gives rest) (λ n h. some_gives (pos n.0, n.1) (record { part = record { minus = false; numeral = h.part }; there = there ∙ ap (λ z. mark 43 ∷ z) h.there; says = ap pos h.says })))
    go {o = Some rest} g = then_gives _ (numeral_gives rest) (λ n h. some_gives (neg_ℤ (pos n.0), n.1) (record { part = record { minus = true; numeral = h.part }; there = g.holds rest refl ∙ ap (λ z. mark 45 ∷ z) h.there; says = ap (λ z. neg_ℤ (pos z)) h.says }))

pub operand_gives : (width : Width) (ts : List Token) → Gives (operand_t width ts) (IsPart (operand_tokens width) operand_said ts)
unfolding operand_t
operand_gives width ts = way_gives _ (register_gives width ts) (λ r h. some_gives (Some (FromReg r.0), r.1) (record { part = OperandForm.register r.0; there = h; says = refl }))
    (then_gives _ (number_gives ts) (λ n h. some_gives (option_map Imm (fits_32 n.0), n.1) (record { part = OperandForm.constant h.part; there = h.there; says = ap (λ z. option_map Imm (fits_32 z)) h.says })))

-- a place in memory: what is read or written, the register, and the offset
pub record IsPlace (ts : List Token) (p : MemoryOperand × List Token) : Type 0 where
  pub address : Address
  pub loaded : is_loaded (p.0).memory ≡ true
  pub there : ts ≡ address_tokens (p.0).memory address ++ p.1
  pub base : address.base ≡ (p.0).base
  pub off : offset_said address ≡ (p.0).off

pub place_gives : (ts : List Token) → Gives (place_t ts) (IsPlace ts)
unfolding place_t
place_gives ts = then_gives _ (strip_gives (tokens (codes "*(")) ts) (λ inside opens.
    then_gives _ (both_give (first_gives memory_text memories inside) (first_passes memory_text is_loaded memories inside refl)) (λ memory found.
    then_gives _ (strip_gives (tokens (codes "*)(")) memory.1) (λ pointer star.
    then_gives _ (register_gives W64 pointer) (λ base based.
    then_gives _ (signed_gives base.1) (λ off at.
    then_gives _ (mark_gives 41 off.1) (λ rest closed.
    some_gives (record { memory = memory.0; base = base.0; off = fits_16 off.0 }, rest) (record {
      address = record { base = base.0; off = at.part };
      loaded = found.1;
      there = opens ∙ ap (λ z. mark 42 ∷ mark 40 ∷ z) (found.0 ∙ ap (λ z. z ++ memory.1) (memory_token memory.0)
          ∙ ap (λ z. word (memory_text memory.0) ∷ z) (star ∙ ap (λ z. mark 42 ∷ mark 41 ∷ mark 40 ∷ z) (based
          ∙ ap (λ z. word (register_text W64 base.0) ∷ z) (at.there ∙ ap (λ z. signed_tokens at.part ++ z) closed))));
      base = refl;
      off = ap fits_16 at.says;
    })))))))

pub target_gives : (jump : Jump) (ts : List Token) → Gives (target_t jump ts) (IsPart target_tokens (target_said jump) ts)
unfolding target_t name_t
target_gives jump ts = way_gives _ (signed_gives ts) (λ n h. some_gives (option_map plain (jump_by jump n.0), n.1) (record { part = Target.distance h.part; there = h.there; says = ap (λ z. option_map plain (jump_by jump z)) h.says }))
    (then_gives _ (word_gives ts) (λ w h. if_gives (is_name w.0) (λ e. some_gives (Some (to_label jump w.0), w.1) (record { part = Target.label (record { text = w.0; is = e }); there = h; says = refl }))))
