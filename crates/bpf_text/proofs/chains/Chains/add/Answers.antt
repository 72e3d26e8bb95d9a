use Rattle.std.proofs.Common.{◌≡◌, ℕ, ◌+◌, ◌<◌, false, List, [], ◌∷◌, ◌++◌, Option, Some, None, is_some, length, map, set, get_or, sym, refl, ◌∙◌, subst, arith}
use Rattle.std.proofs.lemmas.List.{get_or_read}
use Rattle.bpf_text.specs.declared.chains.ChainedLabel.{ChainedLabel}
use Rattle.bpf_text.specs.Assembly.{slot_of}
use Rattle.bpf_text.specs.code.Chains.{IsChained, bucket_of, entry_label, entry_link}
use Rattle.bpf_text.proofs.ChainLemmas.{entry_put}
use Rattle.bpf_text.proofs.chains.Chains.add.Goals as goal

not_some : (o : Option ℕ) → is_some o ≡ false → o ≡ None
not_some None e = refl
not_some (Some x) e = cc

pub invariant_of-self-2 : goal.invariant_of-self-2
invariant_of-self-2 c =
    let s = c.args.self.now in
    let heads : List ℕ = s.heads.items in
    let e : ChainedLabel = record { label = c.args.label; link = c.index-head.result.now } in
    let p : ℕ = bucket_of (length heads) (entry_label e).name in
    let bucket : c.bucket-bucket.result ≡ p = c.bucket-bucket.ensures.bucket in
    let inside : p < length heads = omega (arith, bucket, c.bucket-bucket.ensures.inside) in
    let counted : c.len.result ≡ length s.entries.items = omega (arith, s.entries.ok.0, c.len.ensures) in
    let none : slot_of (map entry_label s.entries.items) (entry_label e).name ≡ None = sym c.find.ensures ∙ not_some c.find.result (sym c.is_some.ensures ∙ c.if-is_some.false) in
    let read : c.index-head.result.now ≡ get_or heads p c.index-head.result.now = subst (λ q. c.index-head.result.now ≡ get_or heads q c.index-head.result.now) bucket c.index-head.ensures in
    let put : IsChained (length (set heads p (length s.entries.items + 1))) (map entry_label (s.entries.items ++ e ∷ [])) (set heads p (length s.entries.items + 1)) (map entry_link (s.entries.items ++ e ∷ []))
    = entry_put s.entries.items heads e s.chained none inside (λ x. get_or_read heads p c.index-head.result.now inside read x) in
    record {
      chained = subst (λ q. IsChained (length (set heads q (c.len.result + 1))) (map entry_label c.push.new.self.items) (set heads q (c.len.result + 1)) (map entry_link c.push.new.self.items)) (sym bucket)
          (subst (λ n. IsChained (length (set heads p (n + 1))) (map entry_label c.push.new.self.items) (set heads p (n + 1)) (map entry_link c.push.new.self.items)) (sym counted)
          (subst (λ (es : List ChainedLabel). IsChained (length (set heads p (length s.entries.items + 1))) (map entry_label es) (set heads p (length s.entries.items + 1)) (map entry_link es)) (sym c.in_ok-push.ensures.items) put));
    }
