use Rattle.std.proofs.Common.{◌≡◌, ℕ, Bool, true, List, ◌<◌, map, length, get_or, sym, ◌∙◌}
use Rattle.std.specs.List.{list_any}
use Rattle.std.proofs.lemmas.List.{length-map}
use Rattle.std.proofs.lemmas.List.Folds.{list_any_at}
use Rattle.std.proofs.Math.ListN.{get_or-map}
use Rattle.bpf_text.specs.code.Endings.{completes}
use Rattle.bpf_text.proofs.endings.any_completes.Goals as goal

any_at : {A : Type 0} (f : List ℕ → Bool) (g : A → List ℕ) (xs : List A) (i : ℕ) (d : A) → i < length xs → f (g (get_or xs i d)) ≡ true → true ≡ list_any f (map g xs)
any_at f g xs i d h e = sym (list_any_at f (map g xs) i (g d) (rw (length-map xs g) h) (rw (get_or-map g xs i d) e))

pub returns-then-branch : goal.returns-then-branch
returns-then-branch c = any_at (completes c.args.fault c.args.front.now) (λ e. e.1.now) c.args.endings.now c.loop-ending.ending-index _ c.loop-ending-test.true (sym c.in_ok-completes.ensures ∙ c.if-branch.true)
