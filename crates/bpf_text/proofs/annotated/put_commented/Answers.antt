use Rattle.std.proofs.Common.{◌≡◌, ℕ, List, ◌++◌, Option, subst}
use Rattle.bpf_insn.specs.Written.{AppendsBeginning, Gathers}
use Rattle.bpf_insn.proofs.WriteLemmas.{gathers_more, waits_first, waits_later, on_ok_map, on_err_map}
use Rattle.bpf_text.proofs.annotated.put_commented.Goals as goal

-- a text was put, and then these blanks and more
padded : (a b c : Option (List ℕ)) (p q r text blanks right more : List ℕ) → blanks ≡ right → Gathers a b p q text → Gathers b c q r (blanks ++ more) → Gathers a c p r (text ++ (right ++ more))
padded a b c p q r text blanks right more e h k = gathers_more a b c p q r text (right ++ more) h (subst (λ l. Gathers b c q r (l ++ more)) e k)

begun : (a b c : Option (List ℕ)) (p q text blanks right more : List ℕ) → blanks ≡ right → Gathers a b p q text → AppendsBeginning b c (q ++ (blanks ++ more)) → AppendsBeginning a c (p ++ (text ++ (right ++ more)))
begun a b c p q text blanks right more e h k = waits_later a b c p q text (right ++ more) h (subst (λ l. AppendsBeginning b c (q ++ (l ++ more))) e k)

pub returns-in-Ok-clause-ok : goal.returns-in-Ok-clause-ok
returns-in-Ok-clause-ok g c = on_ok_map c.put_padded.result (padded _ _ _ _ _ _ _ _ _ _ c.padding-blanks.ensures c.in-Ok.ensures.ok) c.put_padded.ensures.ok

pub returns-in-Ok-clause-err : goal.returns-in-Ok-clause-err
returns-in-Ok-clause-err g c = on_err_map c.put_padded.result (begun _ _ _ _ _ _ _ _ _ c.padding-blanks.ensures c.in-Ok.ensures.ok) c.put_padded.ensures.err

pub returns-in-Err-clause-err : goal.returns-in-Err-clause-err
returns-in-Err-clause-err g c = waits_first _ _ c.args.pending.now c.args.text.now _ c.in-Err.ensures.err
