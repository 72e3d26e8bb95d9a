-- The numbers of refusals of capture files, P1 to P5, and what they say.
use Rattle.std.specs.Prelude.{◌∷◌, ℕ, List, [], codes}
use Rattle.bpf_captures.specs.declared.error.CaptureError.{CaptureError}
use Rattle.bpf_captures.specs.declared.error.CaptureError.TheVariants.{ShortHeader, NewForm, OtherForm, ShortRecord, Unreadable}

abbrev pub refusal_number : CaptureError → ℕ
refusal_number ShortHeader = 1
refusal_number NewForm = 2
refusal_number OtherForm = 3
refusal_number ShortRecord = 4
refusal_number Unreadable = 5

-- what is said by number, without the place; there is no number 0
abbrev pub capture_texts : List (List ℕ)
capture_texts =
    [] ∷
    codes "the file is shorter than the 24 bytes of a capture file's header: capture anew" ∷
    codes "the file is of the form pcapng: `editcap -F pcap FILE NEW` writes one of the form pcap" ∷
    codes "the file begins with none of the numbers a1b2c3d4 and a1b23c4d of a capture file: `tcpdump -w FILE` writes one" ∷
    codes "the file ends within a record" ∷
    codes "the file can't be read" ∷
    []
