use Rattle.std.proofs.Common.{◌≡◌, None, sym, ◌∙◌, ap, refl, []}
use Rattle.bpf_cert.specs.code.Seen.{place_seen, pointer_seen}
use Rattle.bpf_cert.specs.Line.{Content, PlaceText}
use Rattle.bpf_cert.specs.Faults.{is_canonical_content, is_limited_content}
use Rattle.bpf_cert.specs.code.Findings.{found}
use Rattle.bpf_cert.specs.Reading.{bytes_in}
use Rattle.bpf_cert.proofs.ContentLemmas.{content_any, content_pointer, content_bytes, content_number, no_bytes, pointer_form, bytes_form}
use Rattle.bpf_cert.proofs.content.content.Goals as goal
use Rattle.bpf_cert.proofs.content.content.Goals.{in-Register, in-Slot+in_default-bytes}

pub returns-then-eq-clause-value : goal.returns-then-eq-clause-value
returns-then-eq-clause-value c = rw (content_any (place_seen c.args.place) c.args.text.now (rw c.as_slice.ensures at (sym c.eq.ensures ∙ c.if-eq.true))) refl

pub pointer_value-requires : goal.pointer_value-requires
pointer_value-requires c = pointer_form c.args.text.now (pointer_seen c.in-Some.form) (sym c.in-Some.ensures)

pub returns-in-Some-clause-value : goal.returns-in-Some-clause-value
returns-in-Some-clause-value c = c.pointer_value.ensures.value
    ∙ ap (found is_canonical_content is_limited_content) (sym (content_pointer (place_seen c.args.place) c.args.text.now (pointer_seen c.in-Some.form) (rw c.as_slice.ensures at (sym c.eq.ensures ∙ c.if-eq.false)) (sym c.in-Some.ensures)))

pub mask-requires : goal.mask-requires
mask-requires c = bytes_form c.args.text.now c.in-Some-bytes.digits.now (sym (c.in-Some-bytes.ensures []))

pub returns-in-Some-bytes-clause-value : goal.returns-in-Some-bytes-clause-value
returns-in-Some-bytes-clause-value c = rw c.in-Slot.is (c.mask.ensures.value
    ∙ ap (found is_canonical_content is_limited_content) (sym (content_bytes (PlaceText.slot c.in-Slot.field-0.now) c.args.text.now (Content.bytes c.in-Some-bytes.digits.now) (rw c.as_slice.ensures at (sym c.eq.ensures ∙ c.if-eq.false)) (sym c.in_default.ensures) (sym (c.in-Some-bytes.ensures c.in-Slot.field-0.now)))))

pub returns-clause-value : goal.returns-clause-value
returns-clause-value c =
    let none : bytes_in (place_seen c.args.place) c.args.text.now ≡ None = elim c.match-place.branch [
      | in-Register w ↦ rw w.in-Register.is (no_bytes w.in-Register.field-0.now c.args.text.now)
      | in-Slot+in_default-bytes w ↦ rw w.in-Slot.is (sym (w.in_default-bytes.ensures w.in-Slot.field-0.now))
    ] in
    c.word.ensures.value ∙ ap (found is_canonical_content is_limited_content) (sym (content_number (place_seen c.args.place) c.args.text.now (rw c.as_slice.ensures at (sym c.eq.ensures ∙ c.if-eq.false)) (sym c.in_default.ensures) none))
