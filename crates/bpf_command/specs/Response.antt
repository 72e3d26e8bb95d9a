-- What the command answers to its words, whatever they ask for.
use Rattle.std.specs.Prelude.{◌≡◌, ◌≢◌, ◌⊎◌, ⊤, Bool, true, false, List, [], ◌∷◌, map, ℕ, String, Option, Some, None, Result, Ok, Err, MatchResult}
use Rattle.std.specs.Io.KnownBytes.{Keeps}
use Rattle.std.specs.String.{string_bytes}
use Rattle.clap.specs.Words.{Text, subcommand_of}
use Rattle.bpf_command.specs.CommandLine.{IsAsked, bpf, faults_in}
use Rattle.bpf_command.specs.declared.request.words.Request.{Request}
use Rattle.bpf_command.specs.declared.request.words.Request.TheVariants.{Groups, Asm, List as ListOf, Run, Check, RunChecked, Replay, Infer, Harden, Certify, Convert, ToC, Follows, Migrate, Explain}
use Rattle.bpf_answers.specs.Opened.{Opening}
use Rattle.bpf_answers.specs.Made.{Making, making}
use Rattle.bpf_answers.specs.Both.{Putting, putting}
use Rattle.bpf_answers.specs.Loaded.{ImageFails, OpensFirst}
use Rattle.bpf_answers.specs.Told.{IsTold}
use Rattle.bpf_answers.specs.declared.failure.Failure.{Failure}
use Rattle.bpf_answers.specs.declared.failure.Failure.TheVariants.{NoMemory, NotTogether}
use Rattle.bpf_command.specs.Emitted.{EmitFails, EmitSays, NotEmitted}
use Rattle.bpf_command.specs.Converted.{ConvertFails, ConvertSays, NotConverted}
use Rattle.bpf_command.specs.Standing.{Placing, placing}
use Rattle.bpf_command.specs.Followed.{FollowsFails, FollowsSays}
use Rattle.bpf_command.specs.Given.{CheckedFails, CheckedLeaves, CheckedSays, Replies, RepliesEach, RunFails, RunLeaves, RunSays}
use Rattle.bpf_command.specs.RunNames.{names_checked, names_run}
use Rattle.bpf_command.specs.Printed.{AsmFails, AsmSays, CheckSays, GroupsSay, ImageSays, ListSays, LoadedFails, MigrateFails, MigrateSays, NotAssembled, NotMigrated, notes_of}
use Rattle.bpf_command.specs.Replayed.{ReplayedFails, ReplayedLeaves, ReplayedSays, names_replayed}
use Rattle.bpf_command.specs.Certified.{CertifyWithFails, CertifyWithSays, NotCertifiedWith}
use Rattle.bpf_command.specs.Conflicts.{conflict_of}
use Rattle.bpf_command.specs.Explained.{ExplainWithFails, ExplainWithSays}
use Rattle.bpf_command.specs.Found.{Assesses, Converts, Finding, Gives, HardensTo, Infers, Prints, reply_of}
use Rattle.bpf_command.specs.Hardened.{HardenFails, HardenSays, NotAllMade}
use Rattle.bpf_command.specs.Inferred.{InferFails, InferSays, NotInferred}
use Rattle.bpf_command.specs.Names.{names_opened}
use Rattle.bpf_command.specs.Obstacles.{Meeting, Obstructs}

-- ---- names

-- What may be done at names, and the places that a command came to and those that it left.
pub record AtNames (S : Type 0) : Type 1 where
  pub meets : Meeting S
  pub opens : Opening S
  pub makes : Making S
  pub puts : Putting S
  pub places : Placing S
  pub old : S
  pub new : S

abbrev pub names : {S W : Type 0} → Meeting S → Opening S → (S → List ℕ → Option W → S → Type 0) → (S → W → Bool → S → Type 0) → (W → Option (List ℕ)) → S → S → AtNames S
names meets opens creates ends contents old new =
    record {
      meets = meets;
      opens = opens;
      makes = making creates ends contents;
      puts = putting creates ends contents;
      places = placing creates ends contents;
      old = old;
      new = new;
    }

-- no name was touched, and nothing was printed
abbrev pub Untouched : {S : Type 0} → AtNames S → Option (List ℕ) → Option (List ℕ) → Type 0
Untouched n before after = (n.new ≡ n.old) × Keeps before after

-- ---- what is found, and why not

-- What was found for a request; what stood at the names that were read, and what was put at OUT. Contexts and packets are answered as they are
-- read, and `explain` prints words; nothing else is printed.
abbrev pub Does : {S : Type 0} → AtNames S → Option (List ℕ) → Option (List ℕ) → Request → Finding → Type 0
Does n before after (Groups g) found = Gives (Replies (ImageSays n.opens g.order n.old g.input.now n.new GroupsSay) before after) found
Does n before after (Asm a) found = Gives (Replies (AsmSays n.opens n.makes n.old a n.new) before after) found
Does n before after (ListOf l) found = Gives (Replies (ImageSays n.opens l.order n.old l.input.now n.new (ListSays (notes_of l.slots l.bytes))) before after) found
Does n before after (Run r) found = Gives (RunSays n.opens n.old r n.new before after) found
Does n before after (Check c) found = Gives (Replies (CheckSays n.opens c.order n.old c.input.now c.certificate.now n.new c.work) before after) found
Does n before after (RunChecked r) found = Gives (CheckedSays n.opens n.old r n.new before after) found
Does n before after (Replay r) found = Gives (ReplayedSays n.opens n.old r n.new before after) found
Does n before after (Infer i) found = Infers (InferSays n.opens n.makes n.old i n.new) found × Keeps before after
Does n before after (Harden h) found = HardensTo (HardenSays n.opens n.makes n.old h n.new) found × Keeps before after
Does n before after (Certify c) found = Assesses (CertifyWithSays n.opens n.puts n.old c n.new) found × Keeps before after
Does n before after (Convert c) found = Converts (ConvertSays n.opens n.places n.old c n.new) found × Keeps before after
Does n before after (ToC e) found = Gives (Replies (EmitSays n.opens n.makes n.old e n.new) before after) found
Does n before after (Follows f) found = Gives (Replies (FollowsSays n.opens n.old f n.new) before after) found
Does n before after (Explain e) found = Gives (RepliesEach (λ before after. ExplainWithSays n.opens n.old e n.new) before after) found
Does n before after (Migrate t) found = Gives (Replies (MigrateSays n.opens n.makes n.old t.certificate.now t.output.now n.new) before after) found

-- What failed of a request without a conflict.
abbrev pub Misses : {S : Type 0} → AtNames S → Option (List ℕ) → Option (List ℕ) → Request → Failure → Type 0
Misses n before after (Groups g) = ImageFails n.opens n.old g.input.now n.new
Misses n before after (Asm a) = AsmFails n.opens n.makes n.old a n.new
Misses n before after (ListOf l) = ImageFails n.opens n.old l.input.now n.new
Misses n before after (Run r) = RunFails n.opens n.old r n.new before after
Misses n before after (Check c) = LoadedFails n.opens c.order n.old c.input.now c.certificate.now n.new
Misses n before after (RunChecked r) = CheckedFails n.opens n.old r n.new before after
Misses n before after (Replay r) = ReplayedFails n.opens n.old r n.new before after
Misses n before after (Infer i) = InferFails n.opens n.makes n.old i n.new
Misses n before after (Harden h) = HardenFails n.opens n.makes n.old h n.new
Misses n before after (Certify c) = CertifyWithFails n.opens n.puts n.old c n.new
Misses n before after (Convert c) = ConvertFails n.opens n.places n.old c n.new
Misses n before after (ToC e) = EmitFails n.opens n.makes n.old e n.new
Misses n before after (Follows f) = FollowsFails n.opens n.old f n.new
Misses n before after (Explain e) = ExplainWithFails n.opens n.old e n.new
Misses n before after (Migrate t) = MigrateFails n.opens n.makes n.old t.certificate.now t.output.now n.new

-- What stands on standard output then: nothing new; of contexts and packets a beginning of the answers to the first ones. Of the words of `explain`
-- nothing is said.
abbrev pub Leaves : {S : Type 0} → AtNames S → Option (List ℕ) → Option (List ℕ) → Request → Type 0
Leaves n before after (Groups g) = Keeps before after
Leaves n before after (Asm a) = Keeps before after
Leaves n before after (ListOf l) = Keeps before after
Leaves n before after (Run r) = RunLeaves n.opens n.old r n.new before after
Leaves n before after (Check c) = Keeps before after
Leaves n before after (RunChecked r) = CheckedLeaves n.opens n.old r n.new before after
Leaves n before after (Replay r) = ReplayedLeaves n.opens n.old r n.new before after
Leaves n before after (Infer i) = Keeps before after
Leaves n before after (Harden h) = Keeps before after
Leaves n before after (Certify c) = Keeps before after
Leaves n before after (Convert c) = Keeps before after
Leaves n before after (ToC e) = Keeps before after
Leaves n before after (Follows f) = Keeps before after
Leaves n before after (Explain e) = ⊤
Leaves n before after (Migrate t) = Keeps before after

-- What was done at the names then: those that it reads were opened in their order, up to one; what it makes isn't there.
abbrev pub NotMade : {S : Type 0} → AtNames S → Request → Type 0
NotMade n (Groups g) = OpensFirst n.opens (g.input.now ∷ []) n.old n.new
NotMade n (Asm a) = NotAssembled n.opens n.makes n.old a n.new
NotMade n (ListOf l) = OpensFirst n.opens (l.input.now ∷ []) n.old n.new
NotMade n (Run r) = OpensFirst n.opens (names_run r) n.old n.new
NotMade n (Check c) = OpensFirst n.opens (c.input.now ∷ c.certificate.now ∷ []) n.old n.new
NotMade n (RunChecked r) = OpensFirst n.opens (names_checked r) n.old n.new
NotMade n (Replay r) = OpensFirst n.opens (names_replayed r) n.old n.new
NotMade n (Infer i) = NotInferred n.opens n.makes n.old i n.new
NotMade n (Harden h) = NotAllMade n.opens n.makes n.old h n.new
NotMade n (Certify c) = NotCertifiedWith n.opens n.puts n.old c n.new
NotMade n (Convert c) = NotConverted n.opens n.places n.old c n.new
NotMade n (ToC e) = NotEmitted n.opens n.makes n.old e n.new
NotMade n (Follows f) = OpensFirst n.opens (f.original.now ∷ f.rewritten.now ∷ f.notes.now ∷ f.certificate.now ∷ []) n.old n.new
NotMade n (Explain e) = OpensFirst n.opens (names_opened e) n.old n.new
NotMade n (Migrate t) = NotMigrated n.opens n.makes n.old t.certificate.now t.output.now n.new

-- so of a failure
abbrev pub IsMissed : {S : Type 0} → AtNames S → Option (List ℕ) → Option (List ℕ) → Request → Failure → Type 0
IsMissed n before after request failure = Misses n before after request failure × Leaves n before after request × NotMade n request

abbrev pub Carries : {S : Type 0} → AtNames S → Option (List ℕ) → Option (List ℕ) → Request → Result Finding Failure → Type 0
Carries n before after request result = MatchResult result (Does n before after request) (IsMissed n before after request)

-- why nothing is tried: words that can't stand together, names that lead to one file, or no memory to tell that
abbrev pub IsStopped : {S : Type 0} → AtNames S → Request → Failure → Type 0
IsStopped n request failure = (conflict_of request ≡ Some failure) ⊎ ((failure ≡ NotTogether) × Obstructs n.meets n.old request true) ⊎ (failure ≡ NoMemory)

-- Something was found for a request with nothing in its way; or it was stopped, before any name was opened or anything was printed; or something of
-- it failed.
abbrev pub Performs : {S : Type 0} → AtNames S → Option (List ℕ) → Option (List ℕ) → Request → Result Finding Failure → Type 0
Performs n before after request (Ok found) = (conflict_of request ≡ None) × Obstructs n.meets n.old request false × Does n before after request found
Performs n before after request (Err failure) =
    (IsStopped n request failure × Untouched n before after) ⊎ ((conflict_of request ≡ None) × IsMissed n before after request failure)

-- ---- what is printed, and the status

-- what was found was printed, or couldn't be: then the names are as it says, and standard output has a beginning of its text
abbrev pub Replied : {S : Type 0} → AtNames S → Option (List ℕ) → Option (List ℕ) → Request → Result ℕ Failure → Type 0
Replied n before after request result =
    (found : Finding) × (between : Option (List ℕ)) × Performs n before between request (Ok found) × Prints (reply_of found) between after result

-- nothing was found, and nothing more was printed; or printing it failed
abbrev pub Fails : {S : Type 0} → AtNames S → Option (List ℕ) → Option (List ℕ) → Request → Failure → Type 0
Fails n before after request failure = Performs n before after request (Err failure) ⊎ Replied n before after request (Err failure)

-- A request is done, and what was found is printed, with its status; or it fails, which is told with its status. `out` and `err` say what stands on
-- standard output and on standard error.
abbrev pub Serves : {S W E : Type 0} → AtNames S → (out : W → Option (List ℕ)) → W → W → Request → ℕ → (err : E → Option (List ℕ)) → E → E → Type 0
Serves n out before after request status err old new =
    (Replied n (out before) (out after) request (Ok status) × Keeps (err old) (err new))
    ⊎ ((failure : Failure) × Fails n (out before) (out after) request failure × IsTold failure status (err old) (err new))

-- Of words with nothing wrong in them, what they ask for is served; words with something wrong have status 2; or there is no memory for the words,
-- which is told. In the last two nothing is touched.
abbrev pub RespondsTo : {S W E : Type 0} → List Text → AtNames S → (out : W → Option (List ℕ)) → W → W → ℕ → (err : E → Option (List ℕ)) → E → E → Type 0
RespondsTo words n out before after status err old new =
    ((request : Request) × (faults_in words ≡ []) × IsAsked (subcommand_of bpf words) request × Serves n out before after request status err old new)
    ⊎ ((faults_in words ≢ []) × (status ≡ 2) × Untouched n (out before) (out after))
    ⊎ (IsTold NoMemory status (err old) (err new) × Untouched n (out before) (out after))

abbrev pub Responds : {S W E Z : Type 0} → AtNames S → (out : W → Option (List ℕ)) → W → W → List (String Z) → ℕ → (err : E → Option (List ℕ)) → E → E → Type 0
Responds n out before after words status err old new = RespondsTo (map (λ s. string_bytes s) words) n out before after status err old new
