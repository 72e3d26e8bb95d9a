-- A certificate in the making keeps the order and the limits, one line later.
use Rattle.std.proofs.Common.{◌≡◌, ℕ, ◌+◌, ◌^◌, ◌<◌, ◌≤◌, true, cond, not, leb, ltb, List, [], ◌∷◌, ◌++◌, length, Some, refl, sym, ap, ◌∙◌, arith, rules, length-append}
use Rattle.std.specs.Prelude.{◌&&◌, option_map, sum_by, count_by, decimal}
use Rattle.std.specs.List.{list_all}
use Rattle.std.proofs.lemmas.Bool.{ltb-true, le-leb}
use Rattle.std.proofs.lemmas.List.{length-map}
use Rattle.std.proofs.lemmas.List.Sums.{sum_by-append, sum_by-cons}
use Rattle.bpf_num.specs.Number.{Number as AbstractNumber, IsNumber}
use Rattle.bpf_cert.specs.Numeral.{number, is_from_to}
use Rattle.bpf_cert.specs.Line.{Line, PlaceText, Content}
use Rattle.bpf_cert.specs.Faults.{comes_after, is_function, is_label, ends_bare, last_first}
use Rattle.bpf_cert.specs.Limits.{is_rising, is_canonical_state, is_limited_state, is_limited_term, term_before, is_limited_num, label_count, is_limited_header, IsCertificate}
use Rattle.bpf_cert.specs.code.TermSums.{last}
use Rattle.bpf_cert.specs.View.{LabelView, FunctionView, certificate_of}
use Rattle.bpf_cert.specs.Spelling.{header_line, function_line, label_line, term_of}
use Rattle.bpf_cert.specs.code.Standing.{Stands}
use Rattle.bpf_cert.specs.code.Sound.{AreLabels, HasFunction, AreWhole, first_of, slot_of, with_label, IsLabelState}
use Rattle.bpf_cert.specs.declared.standing.Standing.{Standing}
use Rattle.bpf_cert.specs.declared.header.Header.{Header}
use Rattle.bpf_cert.proofs.Bools.{both_true}
use Rattle.bpf_cert.proofs.NumeralLaws.{numeral-decimal}
use Rattle.bpf_cert.proofs.AfterLemmas.{IsFine}
use Rattle.bpf_cert.proofs.TermOrder.{rising_terms}
use Rattle.bpf_cert.proofs.sound.SoundLemmas.{IsLast, last_more, labels_more, labels_less, functions_more}

number_is : (n : ℕ) → n < 2 ^ 64 → number (decimal n) ≡ n
number_is n small = (numeral-decimal n small).1

pub sound_header : (lines : List Line) (new : Standing) (head : Header) → lines ≡ [] → Stands (header_line head ∷ lines) new → is_limited_header head ≡ true → AreWhole new head []
sound_header lines new head none stands limited = record {
  header = limited;
  functions = record { order = refl; canonical = refl; limited = refl };
  first = stands.first ∙ ap last_first none;
  count = stands.functions ∙ ap (λ ls. count_by is_function (header_line head ∷ ls)) none;
  total = stands.labels ∙ ap (λ ls. count_by is_label (header_line head ∷ ls)) none;
  few_functions = omega arith;
  few_labels = omega arith;
}

pub sound_function : (lines : List Line) (old new : Standing) (head : Header) (fs : List FunctionView) (f : FunctionView) → f.labels ≡ [] → f.first < 2 ^ 64 → f.depth < 2 ^ 64 → is_limited_num f.ret ≡ true
    → AreWhole old head fs → Stands lines old → Stands (function_line f ∷ lines) new → IsFine lines (function_line f) → HasFunction new head fs f
sound_function lines old new head fs f bare small_first small_depth ret whole was stands fine =
    let first = number_is f.first small_first in
    let depth = number_is f.depth small_depth in
    let limits = both_true (leb (number (decimal f.first)) 65535 && is_from_to 1 8 (number (decimal f.depth))) _ fine.limited in
    let low = both_true (leb (number (decimal f.first)) 65535) (is_from_to 1 8 (number (decimal f.depth))) limits.0 in
    let room = both_true (ltb (count_by is_function lines) 256) (not (ends_bare lines)) fine.room in
    let few : count_by is_function lines < 256 = ltb-true (count_by is_function lines) 256 room.0 in
    let counted : count_by is_function lines ≡ length fs = sym was.functions ∙ whole.count in
    let none : length f.labels ≡ 0 = ap (λ ls. length ls) bare in
    let total : new.labels ≡ sum_by label_count fs = stands.labels ∙ sym was.labels ∙ whole.total in
    let more : count_by is_function (function_line f ∷ lines) ≡ 1 + count_by is_function lines = sum_by-cons (λ x. cond (is_function x) 1 0) (function_line f) lines in
    let now : new.functions ≡ count_by is_function (function_line f ∷ lines) = stands.functions in
    let limit = whole.few_labels in
    record {
      header = whole.header;
      functions = whole.functions;
      next = record {
        order = ap (λ n. comes_after ltb (option_map first_of (last fs)) n) (sym first) ∙ ap (λ o. comes_after ltb o (number (decimal f.first))) (sym whole.first ∙ was.first) ∙ fine.order;
        first = ap (λ n. leb n 65535) (sym first) ∙ low.0;
        depth = ap (is_from_to 1 8) (sym depth) ∙ low.1;
        ret = ret;
      };
      labels = rw bare (record { order = refl; canonical = refl; limited = refl });
      first = stands.first ∙ ap Some first;
      slot = stands.slot ∙ rw bare refl;
      count = omega arith;
      total = omega arith;
      few_functions = omega arith;
      few_labels = omega arith;
    }

-- the last function is whole
pub whole_more : (s : Standing) (head : Header) (fs : List FunctionView) (f : FunctionView) → HasFunction s head fs f → 0 < length f.labels → AreWhole s head (fs ++ f ∷ [])
whole_more s head fs f has some =
    let sums : sum_by label_count (fs ++ f ∷ []) ≡ sum_by label_count fs + length f.labels = let apart = sum_by-append label_count fs (f ∷ []) in omega arith in
    let lengths : length (fs ++ f ∷ []) ≡ length fs + 1 = length-append fs (f ∷ []) in
    let few = has.few_functions in
    let limit = has.few_labels in
    record {
      header = has.header;
      functions = functions_more fs f has.functions has.next has.labels some;
      first = has.first ∙ sym (ap (option_map first_of) (last_more fs f));
      count = has.count ∙ sym lengths;
      total = has.total ∙ sym sums;
      few_functions = omega arith;
      few_labels = omega arith;
    }

pub sound_end : (lines : List Line) (old : Standing) (head : Header) (fs : List FunctionView) → AreWhole old head fs → Stands lines old → IsFine lines Line.end → IsCertificate (certificate_of head fs)
sound_end lines old head fs whole was fine =
    let room = both_true (ltb 0 (count_by is_function lines)) (not (ends_bare lines)) fine.room in
    let some : 0 < count_by is_function lines = ltb-true 0 (count_by is_function lines) room.0 in
    let counted : count_by is_function lines ≡ length fs = sym was.functions ∙ whole.count in
    let low : leb 1 (length fs) ≡ true = le-leb 1 (length fs) (omega arith) in
    let high : leb (length fs) 256 ≡ true = le-leb (length fs) 256 whole.few_functions in
    let labels : leb (sum_by label_count fs) 65536 ≡ true = le-leb (sum_by label_count fs) 65536 whole.few_labels in
    rw (whole.functions.order, whole.functions.canonical, whole.header, low, high, labels, whole.functions.limited) refl

pub sound_label : (lines : List Line) (old new : Standing) (head : Header) (fs : List FunctionView) (f : FunctionView) (l : LabelView) → l.slot < 2 ^ 64 → l.base < 2 ^ 64 → list_all is_limited_term l.terms ≡ true → IsLabelState l.state
    → HasFunction old head fs f → Stands lines old → Stands (label_line l ∷ lines) new → IsFine lines (label_line l) → HasFunction new head fs (with_label f l)
sound_label lines old new head fs f l small_slot small_base terms state has was stands fine =
    let room : count_by is_label lines < 65536 = ltb-true (count_by is_label lines) 65536 fine.room in
    let more : count_by is_label (label_line l ∷ lines) ≡ 1 + count_by is_label lines = sum_by-cons (λ x. cond (is_label x) 1 0) (label_line l) lines in
    let now : new.labels ≡ count_by is_label (label_line l ∷ lines) = stands.labels in
    let before : old.labels ≡ count_by is_label lines = was.labels in
    let total : old.labels ≡ sum_by label_count fs + length f.labels = has.total in
    let lengths : length (f.labels ++ l ∷ []) ≡ length f.labels + 1 = length-append f.labels (l ∷ []) in
    let sum : new.labels ≡ sum_by label_count fs + length (f.labels ++ l ∷ []) = omega arith in
    let few : sum_by label_count fs + length (f.labels ++ l ∷ []) ≤ 65536 = omega arith in
    let slot = number_is l.slot small_slot in
    let base = number_is l.base small_base in
    let outer = both_true _ _ fine.limited in
    let inner = both_true _ _ outer.0 in
    let ends = both_true (leb (number (decimal l.slot)) 65535) (leb (number (decimal l.base)) (2 ^ 40)) inner.0 in
    let low_slot : leb l.slot 65535 ≡ true = ap (λ n. leb n 65535) (sym slot) ∙ ends.0 in
    let low_base : leb l.base (2 ^ 40) ≡ true = ap (λ n. leb n (2 ^ 40)) (sym base) ∙ ends.1 in
    let four : leb (length l.terms) 4 ≡ true = ap (λ n. leb n 4) (sym (length-map l.terms term_of)) ∙ inner.1 in
    let rising : is_rising term_before l.terms ≡ true = sym (rising_terms l.terms terms) ∙ (both_true _ _ fine.canonical).1 in
    let is : IsLast f.labels l = record {
      order = ap (λ n. comes_after ltb (option_map slot_of (last f.labels)) n) (sym slot) ∙ ap (λ o. comes_after ltb o (number (decimal l.slot))) (sym has.slot ∙ was.slot) ∙ fine.order;
      canonical = rw (state.canonical, rising) refl;
      limited = rw (low_slot, state.limited, low_base, four, terms) refl;
    } in
    record {
      header = has.header;
      functions = has.functions;
      next = record { order = has.next.order; first = has.next.first; depth = has.next.depth; ret = has.next.ret };
      labels = labels_more f.labels l has.labels is;
      first = stands.first ∙ sym was.first ∙ has.first;
      slot = stands.slot ∙ ap Some slot ∙ sym (ap (option_map slot_of) (last_more f.labels l));
      count = stands.functions ∙ sym was.functions ∙ has.count;
      total = sum;
      few_functions = has.few_functions;
      few_labels = few;
    }

-- a label of which only the state changed
label_again : (ls : List LabelView) (l m : LabelView) → IsLast ls l → m.slot ≡ l.slot → m.base ≡ l.base → m.terms ≡ l.terms → IsLabelState m.state → IsLast ls m
label_again ls l m is e f g state =
    let canonical = both_true (is_canonical_state l.state) (is_rising term_before l.terms) is.canonical in
    let outer = both_true _ (list_all is_limited_term l.terms) is.limited in
    let inner = both_true _ (leb (length l.terms) 4) outer.0 in
    let front = both_true _ (leb l.base (2 ^ 40)) inner.0 in
    let low = both_true (leb l.slot 65535) (is_limited_state l.state) front.0 in
    record {
      order = ap (comes_after ltb (option_map slot_of (last ls))) e ∙ is.order;
      canonical = rw (g, state.canonical, canonical.1) refl;
      limited = rw (e, f, g, low.0, state.limited, front.1, inner.1, outer.1) refl;
    }

-- what the last label's state keeps
pub last_state : (ls : List LabelView) (l : LabelView) → AreLabels (ls ++ l ∷ []) → IsLabelState l.state
last_state ls l are =
    let is = (labels_less ls l are).1 in
    let outer = both_true _ (list_all is_limited_term l.terms) is.limited in
    let inner = both_true _ (leb (length l.terms) 4) outer.0 in
    let front = both_true _ (leb l.base (2 ^ 40)) inner.0 in
    record { canonical = (both_true (is_canonical_state l.state) (is_rising term_before l.terms) is.canonical).0; limited = (both_true (leb l.slot 65535) (is_limited_state l.state) front.0).1 }

pub sound_entry : (lines : List Line) (old new : Standing) (head : Header) (fs : List FunctionView) (f : FunctionView) (l m : LabelView) (p : PlaceText) (v : Content) → m.slot ≡ l.slot → m.base ≡ l.base → m.terms ≡ l.terms → IsLabelState m.state
    → HasFunction old head fs (with_label f l) → Stands lines old → Stands (Line.entry p v ∷ lines) new → HasFunction new head fs (with_label f m)
sound_entry lines old new head fs f l m p v e g h state has was stands =
    let parts = labels_less f.labels l has.labels in
    let lengths : length (f.labels ++ l ∷ []) ≡ length f.labels + 1 = length-append f.labels (l ∷ []) in
    let lengths_too : length (f.labels ++ m ∷ []) ≡ length f.labels + 1 = length-append f.labels (m ∷ []) in
    let same : length (f.labels ++ l ∷ []) ≡ length (f.labels ++ m ∷ []) = lengths ∙ sym lengths_too in
    let limit : sum_by label_count fs + length (f.labels ++ l ∷ []) ≤ 65536 = has.few_labels in
    record {
      header = has.header;
      functions = has.functions;
      next = record { order = has.next.order; first = has.next.first; depth = has.next.depth; ret = has.next.ret };
      labels = labels_more f.labels m parts.0 (label_again f.labels l m parts.1 e g h state);
      first = stands.first ∙ sym was.first ∙ has.first;
      slot = stands.slot ∙ sym was.slot ∙ has.slot ∙ ap (option_map slot_of) (last_more f.labels l) ∙ ap Some (sym e) ∙ sym (ap (option_map slot_of) (last_more f.labels m));
      count = stands.functions ∙ sym was.functions ∙ has.count;
      total = stands.labels ∙ sym was.labels ∙ has.total ∙ ap (λ n. sum_by label_count fs + n) same;
      few_functions = has.few_functions;
      few_labels = omega arith;
    }

-- what a number keeps by itself
pub limited_number : (n : AbstractNumber) → IsNumber n → is_limited_num n ≡ true
limited_number n is = search rules
