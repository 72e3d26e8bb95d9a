-- Taking a line from a buffer that has all of it.
use Rattle.std.proofs.Common.{◌≡◌, ◌≢◌, ℕ, zero, suc, ◌+◌, ◌-◌, ◌<◌, ◌≤◌, true, List, [], ◌∷◌, ◌++◌, length, take, drop, Option, Some, None, refl, sym, ap, ap₂, subst, ◌∙◌, append_assoc, arith}
use Rattle.std.specs.Prelude.{slice_index}
use Rattle.std.specs.Io.KnownBytes.{Consumes}
use Rattle.std.proofs.lemmas.Bool.{eq-eqb, eqb-true}
use Rattle.std.proofs.lemmas.List.{drop-drop, drop-take, length-take}
use Rattle.std.proofs.lemmas.List.Elements.{All-cons, All-nil}
use Rattle.bpf_streams.specs.Taken.{IsOneLine, unread}
use Rattle.memchr.specs.Find.{is_byte}

-- the text in front of the first LF, and what stands behind that
pub record Ended (text line rest : List ℕ) : Type 0 where
  pub parts : text ≡ line ++ 10 ∷ rest
  pub one_line : IsOneLine line

-- a byte that is none of its end
longer : (c : ℕ) (text line rest : List ℕ) → ¬ (is_byte 10 c ≡ true) → Ended text line rest → Ended (c ∷ text) (c ∷ line) rest
longer c text line rest other h = record {
  parts = ap (λ cs. c ∷ cs) h.parts;
  one_line = All-cons (λ b. b ≢ 10) c line (λ same. other (eq-eqb c 10 same)) h.one_line;
}

ends : (text : List ℕ) (k : ℕ) → ((j : ℕ) → 0 ≤ j → j < k → ¬ (is_byte 10 (slice_index text j) ≡ true)) → k < length text → is_byte 10 (slice_index text k) ≡ true
    → Ended text (take k text) (drop (suc k) text)
ends [] k none inside e = absurd (omega arith)
ends (c ∷ cs) zero none inside e = record { parts = ap (λ b. b ∷ cs) (eqb-true c 10 e); one_line = All-nil (λ b. b ≢ 10) }
ends (c ∷ cs) (suc k) none inside e =
    longer c cs (take k cs) (drop (suc k) cs) (none 0 (omega arith) (omega arith)) (ends cs k (λ j low high. none (suc j) (omega arith) (omega arith)) (omega arith) e)

pub ended : (text : List ℕ) (k : ℕ) → ((j : ℕ) → 0 ≤ j → j < k → ¬ (is_byte 10 (slice_index text j) ≡ true)) → k < length text → is_byte 10 (slice_index text k) ≡ true
    → Ended text (take k text) (drop (k + 1) text)
ended text k none inside e = let next : suc k ≡ k + 1 = omega arith in subst (λ n. Ended text (take k text) (drop n text)) next (ends text k none inside e)

-- a line and its LF were taken
pub line_taken : (old r : Option (List ℕ)) (buffer line : List ℕ) (at end k : ℕ) → k < length (take (end - at) (drop at buffer)) → unread r buffer at end ≡ old
    → take (end - at) (drop at buffer) ≡ line ++ 10 ∷ drop (k + 1) (take (end - at) (drop at buffer)) → Consumes old (unread r buffer (at + (k + 1)) end) (line ++ 10 ∷ [])
line_taken old r buffer line at end k inside same parts = subst (λ o. Consumes o (unread r buffer (at + (k + 1)) end) (line ++ 10 ∷ [])) same (taken r)
  where
    left : drop (k + 1) (take (end - at) (drop at buffer)) ≡ take (end - (at + (k + 1))) (drop (at + (k + 1)) buffer)
    left =
        let most = length-take (end - at) (drop at buffer) in
        let whole : end - at ≡ (k + 1) + (end - (at + (k + 1))) = omega (arith, inside, most) in
        ap (λ n. drop (k + 1) (take n (drop at buffer))) whole ∙ drop-take (k + 1) (end - (at + (k + 1))) (drop at buffer) ∙ ap (take (end - (at + (k + 1)))) (drop-drop (k + 1) at buffer)

    taken : (r : Option (List ℕ)) → Consumes (unread r buffer at end) (unread r buffer (at + (k + 1)) end) (line ++ 10 ∷ [])
    taken None = tt
    taken (Some ys) =
        ap (λ t. t ++ ys) parts ∙ append_assoc line (10 ∷ drop (k + 1) (take (end - at) (drop at buffer))) ys ∙ ap (λ t. line ++ 10 ∷ (t ++ ys)) left
        ∙ sym (append_assoc line (10 ∷ []) (take (end - (at + (k + 1))) (drop (at + (k + 1)) buffer) ++ ys))
