-- What a fault tells of the bytes.
use Rattle.std.specs.Prelude.{◌≡◌, ◌≢◌, ℕ, ◌<◌, List, length, take, drop, Result, Ok, Err, ⊤}
use Rattle.std.specs.Int.{w32, from_le_bytes}
use Rattle.bit_portable.specs.declared.fault.Fault.{Fault}
use Rattle.bit_portable.specs.declared.fault.Fault.TheVariants as faults
use Rattle.bit_portable.specs.declared.fault.ReadError.{ReadError}
use Rattle.bit_portable.specs.declared.fault.ReadError.TheVariants as errors
use Rattle.bit_portable.specs.Stored.{Piece, two}
use Rattle.bit_portable.specs.Form.{IsWritten, four}

-- something holds of the fault that a call returned, if it did
abbrev pub FailsBy : {X : Type 0} → Result X ReadError → (Fault → Type 0) → Type 0
FailsBy (Ok x) P = ⊤
FailsBy (Err errors.Memory) P = ⊤
FailsBy (Err (errors.Fault f)) P = P f

-- fewer than all bytes, from the first on, are a form of blocks
abbrev pub HasFront : List ℕ → Type 0
HasFront bytes = (n : ℕ) × (n < length bytes) × (ps : List Piece) × IsWritten (take n bytes) ps

-- the first bytes are neither of the two numbers that a form begins with
abbrev pub HasNoCookie : List ℕ → Type 0
HasNoCookie bytes = (take 2 bytes ≢ two 12347) × (take 4 bytes ≢ four 12346)

-- more than 65536 blocks are announced
abbrev pub HasTooMany : List ℕ → Type 0
HasTooMany bytes = (take 4 bytes ≡ four 12346) × (65536 < from_le_bytes w32 (take 4 (drop 4 bytes)))

-- what each fault tells
abbrev pub Tells : List ℕ → Fault → Type 0
Tells bytes faults.Cookie = HasNoCookie bytes
Tells bytes faults.TooMany = HasTooMany bytes
Tells bytes faults.Trailing = HasFront bytes
Tells bytes _ = HasFront bytes → ⊥
