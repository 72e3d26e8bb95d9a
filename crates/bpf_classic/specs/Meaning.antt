-- What a filter is given by a context, and what it is that a program answers what the filter does.
use Rattle.std.specs.Prelude.{◌≡◌, ℕ, ◌+◌, ◌<◌, ◌≤◌, ◌^◌, slice_index, min, List, [], length, take, drop, map, true, Some, if◌then◌else◌, ⊤}
use Rattle.bpf_insn.specs.Limits.{max_context}
use Rattle.bpf_insn.specs.Laws.{AreBytes}
use Rattle.bpf_insn.specs.Order.{number_of}
use Rattle.bpf_insn.specs.Instruction.{Instructions}
use Rattle.bpf_insn.specs.declared.order.Order.TheVariants.{Big}
use Rattle.bpf_semantics.specs.Run.{IsDone}
use Rattle.bpf_classic.specs.Machine.{Given, answer_or_0}
use Rattle.bpf_classic.specs.Valid.{IsFilter}
use Rattle.bpf_classic.specs.declared.instruction.Classic.{Classic}
use Rattle.bpf_classic.specs.declared.refusal.Kind.{Kind}
use Rattle.bpf_classic.specs.Longest.{longest}
use Rattle.bpf_classic.specs.Flow.{is_sound, all_turn}
use Rattle.bpf_classic.specs.Template.{head, room, is_block, is_swapped, is_masked, ahead_in, entry, whole}
use Rattle.bpf_classic.specs.declared.layout.Form.{Form}
use Rattle.bpf_classic.specs.declared.layout.Form.TheVariants.{Blocks, Plain, Seccomp, Extended}
use Rattle.bpf_classic.specs.declared.layout.Layout.{Layout}
use Rattle.bpf_classic.specs.declared.layout.Annotated.{Annotated}

-- how long the packet was: a block says it in front, else the context is the packet
abbrev pub wire_of : Layout → List ℕ → ℕ
wire_of l context = if is_block l.form then number_of l.order 8 (take 8 context) else length context

-- how many bytes of it are there: a block has room for so many
abbrev pub there : Layout → List ℕ → ℕ
there l context = min (wire_of l context) (room l)

-- the words of Linux's auxiliary data stand behind the length
abbrev pub words_of : Form → List ℕ → List ℕ
words_of Blocks context = []
words_of Plain context = []
words_of Seccomp context = []
words_of Extended context = take 64 (drop 8 context)

abbrev pub given : Layout → List ℕ → Given
given l context =
    record {
      packet = take (there l context) (drop (head l.form) context);
      wire = wire_of l context;
      order = if is_swapped l then Big else l.order;
      masks = is_masked l;
      words = words_of l.form context;
      own = l.order;
    }

-- a block has eight bytes in front of the packet, or 72 with Linux's auxiliary data; `struct seccomp_data` has 64 bytes
abbrev pub HasForm : Form → List ℕ → Type 0
HasForm Blocks context = 8 ≤ length context
HasForm Plain context = ⊤
HasForm Seccomp context = length context ≡ 64
HasForm Extended context = 72 ≤ length context

-- any bytes of the layout's length are a context
pub record IsContext (l : Layout) (context : List ℕ) : Type 0 where
  pub length_is : length context ≡ l.length
  pub bytes : AreBytes context
  pub form : HasForm l.form context

abbrev pub insns : List Annotated → List Classic
insns filter = map (λ a. a.insn) filter

abbrev pub program_of : Layout → List Annotated → Instructions
program_of l filter = record { order = l.order; list = whole l filter }

-- what `convert` gives: the program, the form of its contexts, the filter's instructions with what is known in front of each, and the
-- slot at which the template of each begins
pub record Conversion : Type 0 where
  pub program : Instructions
  pub layout : Layout
  pub marked : List Annotated
  pub starts : List ℕ

-- the templates stand behind the entry, one after another
abbrev pub HasStarts : Layout → List Annotated → List ℕ → Type 0
HasStarts l marked starts = (length starts ≡ length marked) × ((at : ℕ) → at < length marked → slice_index starts at ≡ length (entry l marked) + ahead_in l marked at)

-- a program that is converted: the templates of the filter's instructions, marked with what agrees along every way
pub record IsConverted (kind : Kind) (filter : List Classic) (l : Layout) (marked : List Annotated) (p : Instructions) : Type 0 where
  pub valid : IsFilter kind filter
  pub same : insns marked ≡ filter
  pub sound : is_sound l marked ≡ true
  pub turns : all_turn l marked marked ≡ true
  pub few_turns : l.turns < 2 ^ 16
  pub short : l.length ≤ max_context
  pub program : p ≡ program_of l marked

-- what the filter answers the program ends with, within the longest way through it; and with 0 where the filter's run jumps back more often than the
-- layout says
pub record EndsAlike (filter : List Classic) (l : Layout) (p : Instructions) (context : List ℕ) : Type 0 where
  pub value : ℕ
  pub answers : answer_or_0 l.turns (given l context) filter ≡ Some value
  pub steps : ℕ
  pub within : steps ≤ longest l.turns p.list
  pub done : IsDone p context value steps

-- on each context
abbrev pub KeepsAnswers : List Classic → Layout → Instructions → Type 0
KeepsAnswers filter l p = (context : List ℕ) → IsContext l context → EndsAlike filter l p context

abbrev pub ConversionKeepsAnswers : Type 0
ConversionKeepsAnswers = (kind : Kind) (filter : List Classic) (l : Layout) (marked : List Annotated) (p : Instructions) → IsConverted kind filter l marked p → KeepsAnswers filter l p
