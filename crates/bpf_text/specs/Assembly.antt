-- Which program a text assembles to, or why it is none.
use Rattle.std.specs.Prelude.{ℕ, ◌+◌, List, [], ◌∷◌, Option, Some, None, ℤ, pos, ◌==◌, if◌then◌else◌, option_map, ◌≡◌, ◌++◌, is_some, unwrap_or, Result, Ok, Err, ◌-ℤ◌}
use Rattle.std.specs.Str.{bytes_eq}
use Rattle.bpf_insn.specs.declared.instruction.Insn.{Insn}
use Rattle.bpf_insn.specs.declared.instruction.Insn.TheVariants.{JaLong, CallLocal}
use Rattle.bpf_text.specs.declared.statement.Jump.{Jump}
use Rattle.bpf_text.specs.declared.statement.Jump.TheVariants.{GotoLong as FarToSlot, Call as CallSlot}
use Rattle.bpf_insn.specs.Image.{IsProgram}
use Rattle.bpf_insn.specs.Refusal.{IsNoProgram}
use Rattle.bpf_insn.specs.declared.refusal.BuildError.{BuildError}
use Rattle.bpf_insn.specs.declared.refusal.BuildError.TheVariants.{Length, NoEncoding, Target, Memory as NoMemory}
use Rattle.bpf_text.specs.declared.error.TextError.{TextError}
use Rattle.bpf_text.specs.declared.error.TextError.TheVariants.{DefinedAgain, Undefined, TooFar, Program, Memory}
use Rattle.bpf_text.specs.Numerals.{fits_32}
use Rattle.bpf_text.specs.Statements.{Statement, jump_by, plain, to_label}
use Rattle.bpf_text.specs.Sources.{Label, Said, Source, TextSays}

-- ---- labels

-- the slot of the label of this name
abbrev pub slot_of : List Label → List ℕ → Option ℕ
slot_of [] name = None
slot_of (l ∷ ls) name = if bytes_eq l.name name then Some l.slot else slot_of ls name

-- the line of the first label whose name stands above
abbrev pub redefined : List Label → List Label → Option ℕ
redefined above [] = None
redefined above (l ∷ ls) = if is_some (slot_of above l.name) then Some l.line else redefined (above ++ l ∷ []) ls

-- ---- instructions

-- A jump or call over so many slots. No program has a distance of more than 32 bits, for it has too many slots.
abbrev pub jump_over : Jump → ℤ → Option Insn
jump_over FarToSlot z = Some (JaLong (unwrap_or (fits_32 z) (pos 0)))
jump_over CallSlot z = Some (CallLocal (unwrap_or (fits_32 z) (pos 0)))
jump_over jump z = jump_by jump z

abbrev pub ok_or : {A : Type 0} → TextError → Option A → Result A TextError
ok_or e None = Err e
ok_or e (Some x) = Ok x

abbrev pub jump_from : ℕ → ℕ → Jump → Option ℕ → Result Insn TextError
jump_from line slot jump None = Err (Undefined line)
jump_from line slot jump (Some target) = ok_or (TooFar line) (jump_over jump (pos target -ℤ pos (slot + 1)))

abbrev pub insn_said : (List ℕ → Option ℕ) → ℕ → ℕ → Statement → Result Insn TextError
insn_said slots line slot (plain i) = Ok i
insn_said slots line slot (to_label jump name) = jump_from line slot jump (slots name)

abbrev pub insn_of : (List ℕ → Option ℕ) → Said → Result Insn TextError
insn_of slots s = insn_said slots s.line s.slot s.statement

abbrev pub and_then : {A B : Type 0} → Result A TextError → (A → Result B TextError) → Result B TextError
and_then (Ok x) f = f x
and_then (Err e) f = Err e

abbrev pub onto : {A : Type 0} → List A → Result (List A) TextError → Result (List A) TextError
onto front (Err e) = Err e
onto front (Ok xs) = Ok (front ++ xs)

-- the instructions that the statements say, or the first fault of a target
abbrev pub linked : (List ℕ → Option ℕ) → List Said → Result (List Insn) TextError
linked slots [] = Ok []
linked slots (s ∷ ss) = and_then (insn_of slots s) (λ i. onto (i ∷ []) (linked slots ss))

-- ---- programs

abbrev pub unless : Option TextError → Result (List Insn) TextError → Result (List Insn) TextError
unless None result = result
unless (Some fault) result = Err fault

-- First come the faults of a line by itself and of its labels, at the lowest line; then those of targets.
abbrev pub instructions_of : Source → Result (List Insn) TextError
instructions_of source = unless (option_map DefinedAgain (redefined [] source.labels)) (unless source.fault (linked (slot_of source.labels) source.said))

-- the line of the statement at a slot
abbrev pub line_at : ℕ → List Said → ℕ
line_at slot [] = 1
line_at slot (s ∷ ss) = if s.slot == slot then s.line else line_at slot ss

abbrev pub program_error : List Said → BuildError → TextError
program_error said Length = Program 1 Length
program_error said (NoEncoding slot) = Program (line_at slot said) (NoEncoding slot)
program_error said (Target slot) = Program (line_at slot said) (Target slot)
program_error said NoMemory = Memory

-- The text says these instructions, and they are a program.
pub record Assembles (text : List ℕ) (is : List Insn) : Type 0 where
  pub source : Source
  pub says : TextSays text source
  pub instructions : instructions_of source ≡ Ok is
  pub program : IsProgram is

-- What the text says is no instructions for this fault, or instructions that are no program.
pub data IsRefused (text : List ℕ) : TextError → Type 0 where
  no_instructions : {source : Source} {e : TextError} → TextSays text source → instructions_of source ≡ Err e → IsRefused text e
  no_program :
      {source : Source} {is : List Insn} {e : BuildError} → TextSays text source
      → instructions_of source ≡ Ok is → IsNoProgram is e → IsRefused text (program_error source.said e)
