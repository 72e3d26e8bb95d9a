use Rattle.std.proofs.Common.{rules, ◌≡◌, Bool, ℕ, List, Option, ◌∷◌, ◌++◌, sym, ap, ◌∙◌, append_assoc}
use Rattle.std.specs.Io.KnownBytes.{Appends}
use Rattle.std.proofs.KnownBytes.{Appends-trans}
use Rattle.bpf_insn.specs.Written.{AppendsBeginning}
use Rattle.bpf_streams.specs.Escaped.{shown, first_or, is_control, escaped_behind}
use Rattle.bpf_streams.proofs.escaped.write_codes.Goals as goal

-- a byte that begins what is left is shown in front of the rest
one_more : (layout : Bool) (before b after : ℕ) (bs rest whole begun : List ℕ) (control : Bool) → rest ≡ b ∷ bs → control ≡ is_control layout before b after → after ≡ first_or 0 bs → whole ≡ begun ++ escaped_behind layout before rest → whole ≡ begun ++ (shown control b ++ escaped_behind layout b bs)
one_more layout before b after bs rest whole begun control is controlled next e =
    let said : control ≡ is_control layout before b (first_or 0 bs) = controlled ∙ ap (is_control layout before b) next in
    e ∙ ap (λ r. begun ++ escaped_behind layout before r) is ∙ sym (ap (λ k. begun ++ (shown k b ++ escaped_behind layout b bs)) said)

-- what went out of a part is a beginning of the whole
begins : (a b c : Option (List ℕ)) (whole begun part rest : List ℕ) → whole ≡ begun ++ (part ++ rest) → Appends a b begun → AppendsBeginning b c part → AppendsBeginning a c whole
begins a b c whole begun part rest e sent q = record {
  begun = begun ++ q.begun;
  left = q.left ++ rest;
  is_whole = e ∙ ap (λ p. begun ++ (p ++ rest)) q.is_whole ∙ ap (λ p. begun ++ p) (append_assoc q.begun q.left rest) ∙ sym (append_assoc begun q.begun (q.left ++ rest));
  appends = Appends-trans a b c begun q.begun sent q.appends;
}

pub returns-in-Err-clause-err : goal.returns-in-Err-clause-err
returns-in-Err-clause-err g c =
    let is : c.bytes.rest.now ≡ c.in-Some.byte.now ∷ c.in-Some.more.now = search rules in
    let whole = one_more c.args.layout c.bytes.before c.in-Some.byte.now c.first_of.result c.in-Some.more.now c.bytes.rest.now _ c.bytes.invariant.0 c.is_control-control.result is c.is_control-control.ensures c.first_of.ensures c.bytes.invariant.1 in
    begins _ _ _ _ _ _ _ whole c.bytes.invariant.2 c.in-Err.ensures.err

pub bytes-preserved : goal.bytes-preserved
bytes-preserved g c =
    let is : c.bytes.rest.now ≡ c.in-Some.byte.now ∷ c.in-Some.more.now = search rules in
    let part = shown c.is_control-control.result c.in-Some.byte.now in
    let whole = one_more c.args.layout c.bytes.before c.in-Some.byte.now c.first_of.result c.in-Some.more.now c.bytes.rest.now _ c.bytes.invariant.0 c.is_control-control.result is c.is_control-control.ensures c.first_of.ensures c.bytes.invariant.1 in
    (c.bytes.invariant.0 ++ part, whole ∙ sym (append_assoc c.bytes.invariant.0 part (escaped_behind c.args.layout c.in-Some.byte.now c.in-Some.more.now)), Appends-trans _ _ _ _ _ c.bytes.invariant.2 c.in-Ok.ensures.ok)
