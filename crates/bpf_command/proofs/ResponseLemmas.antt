-- What is found for a request, from what its command says of it.
use Rattle.std.proofs.Common.{◌≡◌, ℕ, List, Bool, true, false, Option, Some, None, Result, Ok, Err, IfOk, IfErr, MatchResult, refl, sym, subst}
use Rattle.std.specs.Prelude.{if◌then◌else◌}
use Rattle.std.proofs.lemmas.Option.{none-some}
use Rattle.std.specs.Io.KnownBytes.{Keeps}
use Rattle.bpf_answers.specs.declared.answer.Answer.{Answer}
use Rattle.bpf_answers.specs.declared.failure.Failure.{Failure}
use Rattle.bpf_answers.specs.declared.failure.Failure.TheVariants.{NotTogether}
use Rattle.bpf_answers.specs.declared.reply.Reply.TheVariants.{One}
use Rattle.bpf_answers.proofs.MadeLemmas.{keeps}
use Rattle.bpf_command.specs.declared.request.converting.Converting.{Converting}
use Rattle.bpf_command.specs.Given.{Replies}
use Rattle.bpf_command.specs.Conflicts.{conversion_conflict, is_misfit}
use Rattle.bpf_command.specs.Found.{Finding, Gives}
use Rattle.bpf_command.specs.declared.finding.Finding.TheVariants.{Given}

-- what a command gave back is found; where it fails, what it printed and what stands at the names is as it says
pub carried : {A : Type 0} (finding : A → Finding) (does : Finding → Type 0) (misses : Failure → Type 0) (left names : Type 0) (r : Result A Failure) (s : Result Finding Failure)
    → IfOk r (λ x. s ≡ Ok (finding x)) → IfErr r (λ e. s ≡ Err e) → IfOk r (λ x. does (finding x)) → IfErr r misses → IfErr r (λ _. left) → IfErr r (λ _. names)
    → MatchResult s does (λ f. misses f × left × names)
carried finding does misses left names (Ok x) s is _ h _ _ _ = subst (λ s. MatchResult s does (λ f. misses f × left × names)) (sym is) h
carried finding does misses left names (Err e) s _ is _ h l n = subst (λ s. MatchResult s does (λ f. misses f × left × names)) (sym is) (h, l, n)

-- nothing was printed before
pub unprinted : {A : Type 0} (r : Result A Failure) (known : Option (List ℕ)) → IfErr r (λ _. Keeps known known)
unprinted (Ok x) known = tt
unprinted (Err e) known = keeps known

-- nor beside what is said of what was found
pub silent : {A : Type 0} (says : A → Type 0) (r : Result A Failure) (known : Option (List ℕ)) → IfOk r says → IfOk r (λ x. says x × Keeps known known)
silent says (Ok x) known h = (h, keeps known)
silent says (Err e) known h = tt

-- one answer, before which nothing was printed
pub answered : (says : Answer → Type 0) (misses : Failure → Type 0) (names : Type 0) (known : Option (List ℕ)) (r : Result Answer Failure) (s : Result Finding Failure)
    → IfOk r (λ a. s ≡ Ok (Given (One a))) → IfErr r (λ e. s ≡ Err e) → IfOk r says → IfErr r misses → IfErr r (λ _. names)
    → MatchResult s (Gives (Replies says known known)) (λ f. misses f × Keeps known known × names)
answered says misses names known r s is also h m n =
    carried (λ a. Given (One a)) (Gives (Replies says known known)) misses (Keeps known known) names r s is also (silent says r known h) m (unprinted r known) n

-- ---- no conflict

unless : (b : Bool) (rest : Option Failure) → (if b then Some NotTogether else rest) ≡ None → b ≡ false
unless true rest e = absurd (none-some NotTogether (sym e))
unless false rest e = refl

-- contexts are of one form, and of a length that it has
pub fits : (c : Converting) → conversion_conflict c ≡ None → is_misfit c ≡ false
fits c e = unless (is_misfit c) _ e
