use Rattle.std.proofs.Common.{◌≡◌, List, ℕ, [], ◌∷◌, ◌++◌, get_or, refl, sym, ap, ◌∙◌, append_assoc, subst, true, false}
use Rattle.std.specs.List.{list_any}
use Rattle.bpf_text.specs.Grammar.{Token, tokens, Form}
use Rattle.bpf_text.specs.Stop.{IsBegun, Stops}
use Rattle.bpf_text.specs.code.Endings.{completes, endings}
use Rattle.bpf_text.specs.declared.line.LineFault.{LineFault}
use Rattle.bpf_text.specs.declared.line.LineFault.TheVariants.{NoForm, OutOfRange}
use Rattle.bpf_text.specs.code.WordReading.{skip_blanks}
use Rattle.bpf_text.proofs.TokenLemmas.{skipping}
use Rattle.bpf_text.proofs.StopLemmas.{There, skipped, a_token, no_token, shorter, begun, goes, apart}
use Rattle.bpf_text.proofs.stop.stop_of.Invariants.{Reads}
use Rattle.bpf_text.proofs.stop.stop_of.Goals as goal
use Rattle.bpf_text.proofs.stop.stop_of.Goals.{in-Some+in_ok-longer+in_ok-goes_on+then-not-branch, in_default}

-- the empty front
nothing : (fault : LineFault) → IsBegun fault []
nothing NoForm = record { form = Form.exit; passes = refl; rest = _; begins = refl }
nothing OutOfRange = record { form = Form.exit; passes = refl; rest = _; begins = refl }

-- the tokens of a front with one more
one_more : (front token longer : List ℕ) (next : Token) → longer ≡ front ++ 32 ∷ token → tokens token ≡ next ∷ [] → tokens longer ≡ tokens front ++ next ∷ []
one_more front token longer next e alone = ap tokens e ∙ apart [] front token ∙ ap (λ z. tokens front ++ z) alone

further : (fault : LineFault) (text front rest token more longer : List ℕ) → Reads fault text front rest → There rest token more → longer ≡ front ++ 32 ∷ token → true ≡ list_any (completes fault longer) endings → Reads fault text longer more
further fault text front rest token more longer r t e goes_on =
    record {
      parted = r.parted ∙ ap (λ z. tokens front ++ z) t.first ∙ sym (append_assoc (tokens front) (t.next ∷ []) (tokens more)) ∙ ap (λ z. z ++ tokens more) (sym (one_more front token longer t.next e t.alone));
      bytes = (r.bytes.0 ++ (t.blanks ++ token), r.bytes.1 ∙ ap (λ z. r.bytes.0 ++ z) t.bytes ∙ sym (append_assoc r.bytes.0 (t.blanks ++ token) more));
      begun = begun fault longer (sym goes_on);
    }

pub tokens-init : goal.tokens-init
tokens-init c = record { parted = rw c.new-front.ensures.items refl; bytes = ([], refl); begun = rw c.new-front.ensures.items (nothing c.args.fault) }

pub tokens-smaller : goal.tokens-smaller
tokens-smaller c = shorter c.tokens.rest.now c.in-Some.token.now c.in-Some.more.now (a_token c.tokens.rest.now c.in-Some.token.now c.in-Some.more.now c.in-Some.ensures)

pub tokens-preserved : goal.tokens-preserved
tokens-preserved c = further c.args.fault c.args.text.now c.tokens.front.items c.tokens.rest.now c.in-Some.token.now c.in-Some.more.now c.in_ok-longer.longer.items c.tokens.invariant
    (a_token c.tokens.rest.now c.in-Some.token.now c.in-Some.more.now c.in-Some.ensures)
    (c.in_ok-longer.ensures ∙ ap (λ z. z ++ 32 ∷ c.in-Some.token.now) c.deref.ensures.value)
    (sym c.if-not-branch.false ∙ c.in_ok-goes_on.ensures ∙ ap (λ z. list_any (completes c.args.fault z) endings) c.deref-in-Some.ensures.value)

-- no form begins with one token more
stops_there : (fault : LineFault) (text front rest token more longer : List ℕ) → Reads fault text front rest → There rest token more → longer ≡ front ++ 32 ∷ token → false ≡ list_any (completes fault longer) endings → Stops fault text front rest
stops_there fault text front rest token more longer r t e goes_on =
    record {
      parted = r.parted;
      bytes = r.bytes;
      begun = r.begun;
      longest = λ next ts there begins.
          let same : next ≡ t.next = ap (λ l. get_or l 0 next) (sym there ∙ t.first) in
          let all : tokens longer ≡ tokens front ++ next ∷ [] = one_more front token longer t.next e t.alone ∙ ap (λ z. tokens front ++ z ∷ []) (sym same) in
          let goes_too = goes fault longer (subst (IsBegun fault) (sym all) begins) in
          let both : false ≡ true = goes_on ∙ goes_too in cc;
    }

stops_at_end : (fault : LineFault) (text front rest : List ℕ) → Reads fault text front rest → tokens rest ≡ [] → Stops fault text front rest
stops_at_end fault text front rest r none = record { parted = r.parted; bytes = r.bytes; begun = r.begun; longest = λ next ts there begins. let both : [] ≡ next ∷ ts = sym none ∙ there in cc }

-- the rest without its blanks
at_token : (fault : LineFault) (text front rest : List ℕ) → Stops fault text front rest → Stops fault text front (skip_blanks rest)
at_token fault text front rest s =
    record {
      parted = s.parted ∙ ap (λ z. tokens front ++ z) (sym (skipping rest));
      bytes = (s.bytes.0 ++ (skipped rest).0, s.bytes.1 ∙ ap (λ z. s.bytes.0 ++ z) (skipped rest).1 ∙ sym (append_assoc s.bytes.0 (skipped rest).0 (skip_blanks rest)));
      begun = s.begun;
      longest = λ next ts there. s.longest next ts (sym (skipping rest) ∙ there);
    }

pub returns-clause-stops : goal.returns-clause-stops
returns-clause-stops c = subst (Stops c.args.fault c.args.text.now c.tokens.front.items) (sym c.skip_blanks-rest.ensures) (at_token c.args.fault c.args.text.now c.tokens.front.items c.tokens.rest.now (elim c.match-first_token.branch [
  | in-Some+in_ok-longer+in_ok-goes_on+then-not-branch w ↦
      stops_there c.args.fault c.args.text.now c.tokens.front.items c.tokens.rest.now w.in-Some.token.now w.in-Some.more.now w.in_ok-longer.longer.items c.tokens.invariant
      (a_token c.tokens.rest.now w.in-Some.token.now w.in-Some.more.now w.in-Some.ensures)
      (w.in_ok-longer.ensures ∙ ap (λ z. z ++ 32 ∷ w.in-Some.token.now) w.deref.ensures.value)
      (sym w.if-not-branch.true ∙ w.in_ok-goes_on.ensures ∙ ap (λ z. list_any (completes c.args.fault z) endings) w.deref-in-Some.ensures.value)
  | in_default w ↦ stops_at_end c.args.fault c.args.text.now c.tokens.front.items c.tokens.rest.now c.tokens.invariant (no_token c.tokens.rest.now w.in_default.ensures)
]))
