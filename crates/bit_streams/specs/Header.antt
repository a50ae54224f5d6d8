-- The header of an IPv4 packet that has no options.
use Rattle.std.specs.Prelude.{◌≡◌, ◌^◌, ◌<◌, Bool, List, ◌++◌}
use Rattle.bit_addressing.specs.Row.{binary}
use Rattle.bit_streams.specs.declared.fields.Number.{Number}
use Rattle.bit_streams.specs.declared.formats.header.Header.{Header}

-- its 160 bits
abbrev pub header_bits : Header → List Bool
header_bits h =
    (binary 4 h.version ++ (binary 4 h.header_words ++ (binary 6 h.service ++ (binary 2 h.congestion ++ binary 16 h.total_length))))
    ++ ((binary 16 h.identification ++ (binary 3 h.flags ++ (binary 13 h.fragment_offset ++ (binary 8 h.time_to_live ++ binary 8 h.protocol))))
    ++ (binary 16 h.checksum ++ (binary 32 h.source ++ binary 32 h.destination)))

-- its fields in three groups, as pairs
abbrev pub Parts : Type 0
Parts = (Number 4 × (Number 4 × (Number 6 × (Number 2 × Number 16)))) × ((Number 16 × (Number 3 × (Number 13 × (Number 8 × Number 8)))) × (Number 16 × (Number 32 × Number 32)))

abbrev pub header_parts : Header → Parts
header_parts h = (
  (record { value = h.version }, (record { value = h.header_words }, (record { value = h.service }, (record { value = h.congestion }, record { value = h.total_length })))),
  (
    (record { value = h.identification }, (record { value = h.flags }, (record { value = h.fragment_offset }, (record { value = h.time_to_live }, record { value = h.protocol })))),
    (record { value = h.checksum }, (record { value = h.source }, record { value = h.destination })),
  ),
)

-- the header that has these fields
abbrev pub header_from : Parts → Header
header_from p = record {
  version = p.0.0.value;
  header_words = p.0.1.0.value;
  service = p.0.1.1.0.value;
  congestion = p.0.1.1.1.0.value;
  total_length = p.0.1.1.1.1.value;
  identification = p.1.0.0.value;
  flags = p.1.0.1.0.value;
  fragment_offset = p.1.0.1.1.0.value;
  time_to_live = p.1.0.1.1.1.0.value;
  protocol = p.1.0.1.1.1.1.value;
  checksum = p.1.1.0.value;
  source = p.1.1.1.0.value;
  destination = p.1.1.1.1.value;
}

-- no number has more digits than its field
pub record HasFields (h : Header) : Type 0 where
  pub version : h.version < 2 ^ 4
  pub header_words : h.header_words < 2 ^ 4
  pub service : h.service < 2 ^ 6
  pub congestion : h.congestion < 2 ^ 2
  pub total_length : h.total_length < 2 ^ 16
  pub identification : h.identification < 2 ^ 16
  pub flags : h.flags < 2 ^ 3
  pub fragment_offset : h.fragment_offset < 2 ^ 13
  pub time_to_live : h.time_to_live < 2 ^ 8
  pub protocol : h.protocol < 2 ^ 8
  pub checksum : h.checksum < 2 ^ 16
  pub source : h.source < 2 ^ 32
  pub destination : h.destination < 2 ^ 32

-- the header of a packet without options
pub record IsPlain (h : Header) : Type 0 where
  pub fields : HasFields h
  pub version : h.version ≡ 4
  pub header_words : h.header_words ≡ 5
  pub reserved : h.flags < 4
