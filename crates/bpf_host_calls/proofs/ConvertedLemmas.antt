-- What is made of a filter, from what its parts tell.
use Rattle.std.proofs.Common.{◌≡◌, ◌∙◌, ℕ, List, Ok, length, sym, ap, subst}
use Rattle.bpf_insn.specs.Instruction.{Instructions}
use Rattle.bpf_insn.specs.Image.{IsProgram, image}
use Rattle.bpf_insn.specs.Laws.{IsImageOfProgram}
use Rattle.bpf_insn.specs.declared.order.Order.{Order}
use Rattle.bpf_cert.specs.Spelling.{certificate_text}
use Rattle.bpf_cert.specs.View.{CertificateView}
use Rattle.bpf_check.specs.Verdicts.{Promises}
use Rattle.bpf_safety.specs.Certified.{Certified}
use Rattle.bpf_classic.specs.declared.raw.Raw.{Raw}
use Rattle.bpf_classic.specs.Bytes.{raws_in}
use Rattle.bpf_classic.specs.Meaning.{KeepsAnswers}
use Rattle.bpf_classic.specs.declared.layout.Wanted.{Wanted}
use Rattle.bpf_conversion.specs.Made.{Certifies, IsMade, filter_of}
use Rattle.bpf_conversion.specs.declared.made.Made.{Made}
use Rattle.bpf_host_calls.specs.Converted.{IsConvertedAs, IsImageOfFilter}
use Rattle.bpf_host_calls.specs.declared.conversion.BpfConverted.{BpfConverted}
use Rattle.bpf_host_calls.proofs.ImageLemmas.{in_order}

-- the image of a program in its order
image_in : (order : Order) (p : Instructions) (bytes : List ℕ) → p.order ≡ order → IsProgram p.list → bytes ≡ image p.order p.list → IsImageOfProgram order bytes p.list
image_in order p bytes same program bytes_are = record { program = program; bytes_are = bytes_are ∙ ap (λ o. image o p.list) same }

-- what its certificate promises
promised : (order : Order) (size bound : ℕ) (p : Instructions) (c : CertificateView) (bytes text : List ℕ) → p.order ≡ order → IsImageOfProgram order bytes p.list → Certifies p c → c.least ≡ size → c.most ≡ size → bound ≡ c.steps → text ≡ certificate_text c → Promises order bytes text size size bound
promised order size bound p c bytes text same is_image by least most bound_is text_is =
    record {
      certificate = c;
      certifies = record {
        program = p.list;
        is_image = is_image;
        spelled = record { valid = by.certificate; spelled = text_is };
        certified = subst (λ i. Certified i c) (in_order order p same) by.certified;
      };
      least_is = sym least;
      most_is = sym most;
      bound_is = bound_is;
    }

-- the program ends with what the filter answers
kept : (raws : List Raw) (wanted : Wanted) (made : Made) (bytes : List ℕ) → IsMade raws wanted made → IsImageOfProgram wanted.order bytes made.converted.program.list → IsImageOfFilter raws wanted bytes
kept raws wanted made bytes is_made is_image =
    record {
      filter = is_made.filter;
      program = made.converted.program.list;
      is_image = is_image;
      layout = made.converted.layout;
      form_is = is_made.form_is;
      length_is = is_made.length_is;
      order_is = is_made.order_is;
      turns_are = is_made.turns_are;
      answers = subst (KeepsAnswers (filter_of wanted.form raws) made.converted.layout) (in_order wanted.order made.converted.program is_made.runs_in) is_made.answers;
    }

pub converted_as : (filter_order : Order) (filter : List ℕ) (wanted : Wanted) (told : BpfConverted) (raws : List Raw) (made : Made) (bytes text : List ℕ) → raws_in filter_order filter ≡ Ok raws → IsMade raws wanted made → IsProgram made.converted.program.list → bytes ≡ image made.converted.program.order made.converted.program.list → text ≡ certificate_text made.certificate → told.image_len ≡ length bytes → told.certificate_len ≡ length text → told.bound ≡ made.certificate.steps → IsConvertedAs filter_order filter wanted told bytes text
converted_as filter_order filter wanted told raws made bytes text spelled is_made program bytes_are text_is image_length text_length bound_is =
    let is_image = image_in wanted.order made.converted.program bytes is_made.runs_in program bytes_are in
    record {
      raws = raws;
      spelled = spelled;
      image = kept raws wanted made bytes is_made is_image;
      image_length = image_length;
      text_length = text_length;
      promises = promised wanted.order wanted.length told.bound made.converted.program made.certificate bytes text is_made.runs_in is_image is_made.certified is_made.least is_made.greatest bound_is text_is;
    }
