-- Files of captured packets, of the form "pcap" (draft-ietf-opsawg-pcap): a header, and behind it a record for each packet. Times, link types and
-- the lengths that packets had before they were cut count for nothing here.
use Rattle.std.specs.Prelude.{◌≡◌, ◌≢◌, ◌⊎◌, ℕ, ◌+◌, List, [], ◌∷◌, ◌++◌, length, drop}
use Rattle.bpf_insn.specs.Order.{number_of}
use Rattle.bpf_insn.specs.declared.order.Order.{Order}

-- the first number of a file: times are in microseconds, or in nanoseconds (section 4)
abbrev pub micro : ℕ
micro = 0xa1b2c3d4

abbrev pub nano : ℕ
nano = 0xa1b23c4d

abbrev pub IsMagic : ℕ → Type 0
IsMagic n = (n ≡ micro) ⊎ (n ≡ nano)

-- the first number of a file of the form "pcapng", the same in both byte orders (draft-ietf-opsawg-pcapng, section 4.1)
abbrev pub new_form : ℕ
new_form = 0x0a0d0d0a

abbrev pub header_bytes : ℕ
header_bytes = 24

-- a header, with the numbers of the file in this byte order (section 4)
pub record IsHeader (order : Order) (header : List ℕ) : Type 0 where
  pub long : length header ≡ header_bytes
  pub magic : IsMagic (number_of order 4 header)

-- the bytes of a record in front of its packet
abbrev pub front_bytes : ℕ
front_bytes = 16

-- the record of a packet: 16 bytes, in the ninth to the twelfth of which stands how many bytes were captured, and these bytes (section 5)
pub record IsRecord (order : Order) (packet bytes : List ℕ) : Type 0 where
  pub head : List ℕ
  pub bytes_are : bytes ≡ head ++ packet
  pub long : length head ≡ front_bytes
  pub count : number_of order 4 (drop 8 head) ≡ length packet

-- the records of packets, one behind the other
abbrev pub AreRecords : Order → List (List ℕ) → List ℕ → Type 0
AreRecords order [] bytes = bytes ≡ []
AreRecords order (packet ∷ packets) bytes = (first rest : List ℕ) × (bytes ≡ first ++ rest) × IsRecord order packet first × AreRecords order packets rest

-- a file begins with a header and the records of these packets, in the order in which they stand there, and this is the rest
pub record Begins (order : Order) (packets : List (List ℕ)) (text rest : List ℕ) : Type 0 where
  pub header : List ℕ
  pub records : List ℕ
  pub text_is : text ≡ header ++ (records ++ rest)
  pub is_header : IsHeader order header
  pub are_records : AreRecords order packets records

-- the file in which these packets were captured
abbrev pub IsCapture : Order → List (List ℕ) → List ℕ → Type 0
IsCapture order packets text = Begins order packets text []

-- no record begins a text that has something
pub record IsBroken (order : Order) (text : List ℕ) : Type 0 where
  pub some : text ≢ []
  pub none : (packet bytes rest : List ℕ) → text ≡ bytes ++ rest → IsRecord order packet bytes → ⊥

-- a file that ends within the record behind these packets
abbrev pub BreaksOff : Order → List (List ℕ) → List ℕ → Type 0
BreaksOff order packets text = (rest : List ℕ) × Begins order packets text rest × IsBroken order rest

-- how many bytes the records of these packets take
abbrev pub records_length : List (List ℕ) → ℕ
records_length [] = 0
records_length (packet ∷ packets) = front_bytes + length packet + records_length packets

-- the byte of the file, counted from 0, at which the record behind these packets begins
abbrev pub place_behind : List (List ℕ) → ℕ
place_behind packets = header_bytes + records_length packets

-- There the rest of a file begins that begins with these packets.
abbrev pub RestIsThere : Type 0
RestIsThere = (order : Order) (packets : List (List ℕ)) (text rest : List ℕ) → Begins order packets text rest → drop (place_behind packets) text ≡ rest
