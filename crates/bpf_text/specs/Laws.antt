-- The laws above the definitions. Each is proved as the contract of a function of its own.
use Rattle.std.specs.Prelude.{◌≡◌, ◌≤◌, ◌*◌, ◌↔◌, ◌⊎◌, ℕ, List, length, Option, Some}
use Rattle.bpf_insn.specs.declared.instruction.Insn.{Insn}
use Rattle.bpf_text.specs.declared.error.TextError.{TextError}
use Rattle.bpf_insn.specs.Image.{IsProgram}
use Rattle.bpf_insn.specs.Instruction.{slots}
use Rattle.bpf_text.specs.Sources.{Source, TextSays}
use Rattle.bpf_text.specs.Assembly.{Assembles, IsRefused}
use Rattle.bpf_insn.specs.declared.order.Order.{Order}
use Rattle.bpf_text.specs.Listing.{listing}
use Rattle.bpf_text.specs.Annotated.{annotated}
use Rattle.bpf_text.specs.declared.annotated.Notes.{Notes}
use Rattle.bpf_text.specs.Statements.{Statement}
use Rattle.bpf_text.specs.code.StatementReading.{whole_statement}
use Rattle.bpf_text.specs.code.LineReading.{source_of}
use Rattle.bpf_text.specs.Grammar.{Form, tokens, form_tokens, form_said}

-- ---- the grammar

-- what is read as a statement is the spelling of a form, and says what the form says
abbrev pub ReadsForms : Type 0
ReadsForms = (text : List ℕ) (s : Option Statement) → (whole_statement text ≡ Some s) ↔ ((form : Form) × (tokens text ≡ form_tokens form) × (form_said form ≡ s))

-- Each text says one source: the one that the reader computes.
abbrev pub ReadsText : Type 0
ReadsText = (text : List ℕ) (source : Source) → TextSays text source ↔ (source_of text ≡ source)

-- ---- texts

-- a text assembles to one list of instructions
abbrev pub AssemblesToOne : Type 0
AssemblesToOne = (text : List ℕ) (is js : List Insn) → Assembles text is → Assembles text js → is ≡ js

-- and then it has no refusal
abbrev pub NeverBoth : Type 0
NeverBoth = (text : List ℕ) (is : List Insn) (e : TextError) → Assembles text is → IsRefused text e → ⊥

-- a text is refused for one cause at one line
abbrev pub RefusedOnce : Type 0
RefusedOnce = (text : List ℕ) (e other : TextError) → IsRefused text e → IsRefused text other → e ≡ other

-- A text is one of the two.
abbrev pub AssemblesOrIsRefused : Type 0
AssemblesOrIsRefused = (text : List ℕ) → ((is : List Insn) × Assembles text is) ⊎ ((e : TextError) × IsRefused text e)

-- a program's listing assembles to the program again
abbrev pub ListingAssembles : Type 0
ListingAssembles = (is : List Insn) → IsProgram is → Assembles (listing is) is

-- and so does the listing with comments
abbrev pub AnnotatedAssembles : Type 0
AnnotatedAssembles = (notes : Notes) (order : Order) (is : List Insn) → IsProgram is → Assembles (annotated notes order is) is

-- a listing has at most 256 bytes for each slot, also with comments
abbrev pub ListingsAreShort : Type 0
ListingsAreShort = (is : List Insn) → (length (listing is) ≤ 256 * slots is) × ((notes : Notes) (order : Order) → length (annotated notes order is) ≤ 256 * slots is)
