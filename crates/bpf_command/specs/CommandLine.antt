-- What is wrong with the words of a command line, or what they ask for.
use Rattle.std.specs.Prelude.{◌≡◌, ◌≢◌, ℕ, Bool, List, [], Option, Some, None, is_some, ◌&&◌, ◌||◌, option_map, unwrap_or, codes, true, false}
use Rattle.std.specs.Str.Parse.{ParsesUnsigned}
use Rattle.std.specs.declared.num.ParseIntError.{ParseIntError}
use Rattle.clap.specs.Words.{Kinds, ReadsOne, Row, Text, fault_of, first_of, one_of}
pub use Rattle.bpf_command.specs.Commands.{bpf}
use Rattle.bpf_command.specs.Limits.{usual_turns}
use Rattle.bpf_insn.specs.declared.order.Order.{Order}
use Rattle.bpf_insn.specs.declared.order.Order.TheVariants.{Little, Big}
use Rattle.bpf_command.specs.declared.request.certifying.Certifying.{Certifying}
use Rattle.bpf_command.specs.declared.request.contexts.Contexts.{Contexts}
use Rattle.bpf_command.specs.declared.request.emitting.Emitting.{Emitting}
use Rattle.bpf_command.specs.declared.request.converting.Converting.{Converting}
use Rattle.bpf_command.specs.declared.request.contexts.Contexts.TheVariants.{Word, Bytes, Lines, Nothing, Several}
use Rattle.bpf_command.specs.declared.request.following.Following.{Following}
use Rattle.bpf_command.specs.declared.request.hardening.Hardening.{Hardening}
use Rattle.bpf_command.specs.declared.request.asking.Inferring.{Inferring}
use Rattle.bpf_command.specs.declared.request.replaying.Replaying.{Replaying}
use Rattle.bpf_command.specs.declared.request.words.Request.{Request}
use Rattle.bpf_command.specs.declared.request.words.Request.TheVariants.{Groups, Asm, List as ListOf, Run, Check, RunChecked, Replay, Infer, Harden, Certify, Convert, ToC, Follows, Migrate, Explain}
use Rattle.bpf_command.specs.declared.request.subject.Subject.{Subject}
use Rattle.bpf_command.specs.declared.request.subject.SubjectWords.{SubjectWords}
use Rattle.bpf_command.specs.Explaining.{GivesSubject}

-- the kinds of what is wrong with the words, by the first step of the parse that fails; none of words that are taken
abbrev pub faults_in : List Text → Kinds
faults_in words = fault_of bpf words

-- ---- what the words ask for

-- the word of an argument
abbrev pub word_of : Text → List Row → Text
word_of id rows = unwrap_or (first_of id rows) []

-- a number of so many bits as it is parsed, this one where there is none
abbrev pub IsCount : (bits default : ℕ) → Option Text → ℕ → Type 0
IsCount bits default None n = n ≡ default
IsCount bits default (Some text) n = (parsed : Option ℕ) × ReadsOne {E = ParseIntError} (λ t r. ParsesUnsigned bits 10 t r) text parsed × (n ≡ unwrap_or parsed default)

-- a number below 2 ^ 32 as it is parsed, None where there is none
abbrev pub IsNumber : Option Text → Option ℕ → Type 0
IsNumber None n = n ≡ None
IsNumber (Some text) n = ReadsOne {E = ParseIntError} (λ t r. ParsesUnsigned 32 10 t r) text n

-- whether a flag is given
abbrev pub IsFlag : Option Text → Bool → Type 0
IsFlag None given = given ≡ false
IsFlag (Some text) given = (text ≡ codes "true" → given ≡ true) × (text ≡ codes "false" → given ≡ false)

-- big-endian where `--big` is given, else little-endian
abbrev pub IsOrder : List Row → Order → Type 0
IsOrder rows Big = IsFlag (one_of (codes "big") rows) true
IsOrder rows Little = IsFlag (one_of (codes "big") rows) false

-- the word for IN, and the order of its image
abbrev pub IsInput : List Row → Text → Order → Type 0
IsInput rows input order = (input ≡ word_of (codes "IN") rows) × IsOrder rows order

-- by the word for a context, the name of one, and the name of lines
abbrev pub GivenBy : Option Text → Option Text → Option Text → Contexts → Type 0
GivenBy word bytes lines (Word hex) = (word ≡ Some hex.now) × (bytes ≡ None) × (lines ≡ None)
GivenBy word bytes lines (Bytes name) = (word ≡ None) × (bytes ≡ Some name.now) × (lines ≡ None)
GivenBy word bytes lines (Lines name) = (word ≡ None) × (bytes ≡ None) × (lines ≡ Some name.now)
GivenBy word bytes lines Nothing = (word ≡ None) × (bytes ≡ None) × (lines ≡ None)
GivenBy word bytes lines Several = ((is_some word && is_some bytes) || (is_some word && is_some lines) || (is_some bytes && is_some lines)) ≡ true

-- the contexts that HEX, `--context` and `--contexts` give
abbrev pub AreContexts : List Row → Contexts → Type 0
AreContexts rows contexts = GivenBy (first_of (codes "HEX") rows) (first_of (codes "context") rows) (first_of (codes "contexts") rows) contexts

-- the name at which contexts are read
abbrev pub name_of : Contexts → List ℕ
name_of (Word hex) = []
name_of (Bytes name) = name.now
name_of (Lines name) = name.now
name_of Nothing = []
name_of Several = []

-- which packets are to be run, and what is told of their answers
abbrev pub IsReplaying : List Row → Replaying → Type 0
IsReplaying rows r =
    IsInput rows r.input.now r.order × (r.certificate.now ≡ word_of (codes "CERT") rows) × (option_map (λ s. s.now) r.packets ≡ first_of (codes "packets") rows)
    × AreContexts rows r.contexts × IsFlag (one_of (codes "counts") rows) r.counts × (option_map (λ s. s.now) r.notes ≡ first_of (codes "notes") rows)

-- what CERT, `--infer`, `--most`, `--deep`, `--harden`, `--padded`, `--slot`, `--text` and `--dot` want explained
abbrev pub IsSubject : List Row → Subject → Type 0
IsSubject rows subject =
    (told : SubjectWords) × (option_map (λ s. s.now) told.certificate ≡ first_of (codes "CERT") rows)
    × IsNumber (one_of (codes "infer") rows) told.infer × IsNumber (one_of (codes "most") rows) told.most × IsFlag (one_of (codes "deep") rows) told.deep
    × IsNumber (one_of (codes "harden") rows) told.harden × IsFlag (one_of (codes "padded") rows) told.padded
    × IsNumber (one_of (codes "slot") rows) told.slot × IsFlag (one_of (codes "text") rows) told.text × IsFlag (one_of (codes "dot") rows) told.dot
    × GivesSubject told subject

-- what is to be hardened, how, and where the answer goes
abbrev pub IsHardening : List Row → Hardening → Type 0
IsHardening rows h =
    IsInput rows h.input.now h.order × IsCount 32 0 (one_of (codes "LEN") rows) h.length × (h.output.now ≡ word_of (codes "OUT") rows)
    × IsCount 32 usual_turns (one_of (codes "turns") rows) h.turns × IsNumber (one_of (codes "untouched") rows) h.untouched
    × IsCount 64 0 (one_of (codes "otherwise") rows) h.otherwise
    × IsFlag (one_of (codes "padded") rows) h.padded × IsFlag (one_of (codes "unproved") rows) h.unproved
    × (option_map (λ s. s.now) h.notes ≡ first_of (codes "notes") rows) × (option_map (λ s. s.now) h.certificate ≡ first_of (codes "certificate") rows)
    × (option_map (λ s. s.now) h.changes ≡ first_of (codes "changes") rows)

-- what is to be certified, within which bound, how, and where the answers go
abbrev pub IsCertifying : List Row → Certifying → Type 0
IsCertifying rows c =
    IsInput rows c.input.now c.order × IsCount 32 0 (one_of (codes "LEN") rows) c.length
    × (c.output.now ≡ word_of (codes "OUT") rows) × (c.certificate.now ≡ word_of (codes "CERT") rows)
    × IsNumber (one_of (codes "bound") rows) c.bound × IsNumber (one_of (codes "turns") rows) c.turns × IsCount 64 0 (one_of (codes "otherwise") rows) c.otherwise
    × IsFlag (one_of (codes "padded") rows) c.padded × IsFlag (one_of (codes "unproved") rows) c.unproved
    × (option_map (λ s. s.now) c.notes ≡ first_of (codes "notes") rows) × (option_map (λ s. s.now) c.changes ≡ first_of (codes "changes") rows)
    × (option_map (λ s. s.now) c.lines ≡ first_of (codes "lines") rows)

-- the hardening that a certification comes to where the program needs one
abbrev pub hardening_of : Certifying → Hardening
hardening_of c = record {
  input = c.input;
  length = c.length;
  output = c.output;
  turns = unwrap_or c.turns 1;
  untouched = None;
  otherwise = c.otherwise;
  padded = c.padded;
  unproved = c.unproved;
  notes = c.notes;
  certificate = None;
  changes = c.changes;
  order = c.order;
}

-- which filter is to be converted, for which contexts, and where the answers go
abbrev pub IsConverting : List Row → Converting → Type 0
IsConverting rows c =
    IsInput rows c.input.now c.order × IsCount 32 0 (one_of (codes "LEN") rows) c.length
    × (c.output.now ≡ word_of (codes "OUT") rows) × (c.certificate.now ≡ word_of (codes "CERT") rows)
    × IsFlag (one_of (codes "plain") rows) c.plain × IsFlag (one_of (codes "seccomp") rows) c.seccomp
    × IsFlag (one_of (codes "extensions") rows) c.extensions × IsFlag (one_of (codes "raw") rows) c.raw
    × (option_map (λ s. s.now) c.listing ≡ first_of (codes "listing") rows) × IsNumber (one_of (codes "turns") rows) c.turns

-- the name of a function of C, where none is given
abbrev pub usual_name : Text
usual_name = codes "filter"

-- which program is wanted as C, by which certificate, under which name, and where the text goes
abbrev pub IsEmitting : List Row → Emitting → Type 0
IsEmitting rows e =
    IsInput rows e.input.now e.order × (e.certificate.now ≡ word_of (codes "CERT") rows) × (e.output.now ≡ word_of (codes "OUT") rows)
    × (e.name.now ≡ unwrap_or (first_of (codes "name") rows) usual_name)

-- which programs are to be compared, by which notes, beside which certificate
abbrev pub IsFollowing : List Row → Following → Type 0
IsFollowing rows f =
    (f.original.now ≡ word_of (codes "OLD") rows) × (f.rewritten.now ≡ word_of (codes "NEW") rows) × (f.notes.now ≡ word_of (codes "NOTES") rows)
    × (f.certificate.now ≡ word_of (codes "CERT") rows) × IsOrder rows f.order

-- for which image and contexts a certificate is to be found, how, and where it goes
abbrev pub IsInferring : List Row → Inferring → Type 0
IsInferring rows i =
    IsInput rows i.input.now i.order × IsCount 32 0 (one_of (codes "LEN") rows) i.least × IsCount 32 i.least (one_of (codes "most") rows) i.most
    × IsFlag (one_of (codes "deep") rows) i.deep × (i.output.now ≡ word_of (codes "OUT") rows)

-- the request of a subcommand with these matches
abbrev pub Asks : Text → List Row → Request → Type 0
Asks name rows (Groups g) =
    (name ≢ codes "asm") × (name ≢ codes "list") × (name ≢ codes "run") × (name ≢ codes "check") × (name ≢ codes "run-checked") × (name ≢ codes "infer")
    × (name ≢ codes "harden") × (name ≢ codes "certify") × (name ≢ codes "convert") × (name ≢ codes "to-c") × (name ≢ codes "follows") × (name ≢ codes "migrate") × (name ≢ codes "explain")
    × IsInput rows g.input.now g.order
Asks name rows (Asm a) = (name ≡ codes "asm") × IsInput rows a.input.now a.order × (a.output.now ≡ word_of (codes "OUT") rows)
Asks name rows (ListOf l) =
    (name ≡ codes "list") × IsInput rows l.input.now l.order × IsFlag (one_of (codes "slots") rows) l.slots × IsFlag (one_of (codes "bytes") rows) l.bytes
Asks name rows (Run r) =
    (name ≡ codes "run") × IsInput rows r.input.now r.order × AreContexts rows r.contexts
    × IsCount 32 0 (one_of (codes "steps") rows) r.steps × IsNumber (one_of (codes "trace") rows) r.trace
    × (option_map (λ s. s.now) r.notes ≡ first_of (codes "notes") rows)
Asks name rows (Check c) =
    (name ≡ codes "check") × IsInput rows c.input.now c.order × (c.certificate.now ≡ word_of (codes "CERT") rows) × IsFlag (one_of (codes "work") rows) c.work
Asks name rows (RunChecked r) =
    (name ≡ codes "run-checked") × IsInput rows r.input.now r.order × (r.certificate.now ≡ word_of (codes "CERT") rows) × AreContexts rows r.contexts
    × (first_of (codes "packets") rows ≡ None) × IsFlag (one_of (codes "counts") rows) false
    × (option_map (λ s. s.now) r.notes ≡ first_of (codes "notes") rows)
Asks name rows (Replay r) = (name ≡ codes "run-checked") × IsReplaying rows r × ((is_some r.packets || r.counts) ≡ true)
Asks name rows (Infer i) = (name ≡ codes "infer") × IsInferring rows i
Asks name rows (Harden hardening) = (name ≡ codes "harden") × IsHardening rows hardening
Asks name rows (Certify certifying) = (name ≡ codes "certify") × IsCertifying rows certifying
Asks name rows (Convert converting) = (name ≡ codes "convert") × IsConverting rows converting
Asks name rows (ToC emitting) = (name ≡ codes "to-c") × IsEmitting rows emitting
Asks name rows (Follows following) = (name ≡ codes "follows") × IsFollowing rows following
Asks name rows (Explain e) =
    (name ≡ codes "explain") × IsInput rows e.input.now e.order × IsSubject rows e.subject × (option_map (λ s. s.now) e.lines ≡ first_of (codes "lines") rows)
Asks name rows (Migrate m) = (name ≡ codes "migrate") × (m.certificate.now ≡ word_of (codes "CERT") rows) × (m.output.now ≡ word_of (codes "OUT") rows)

-- the request of a command line on which the parser found this subcommand
abbrev pub IsAsked : Option (Text × List Row) → Request → Type 0
IsAsked (Some s) request = Asks s.0 s.1 request
IsAsked None (Groups g) = (g.input.now ≡ []) × (g.order ≡ Little)
IsAsked None _ = ⊥
