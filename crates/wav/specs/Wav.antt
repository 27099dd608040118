-- WAV files (RIFF): chunks of a name of four bytes, a length of four, low byte first, and so many bytes, with one more where they are odd.
use Rattle.std.specs.Prelude.{Bool, false, cond, List, ◌++◌, ℕ, ◌+◌, ◌-◌, ◌*◌, ◌/◌, ◌%◌, ◌≤◌, eqb, ltb, length, take, drop, Result, Ok, Err, Option, None, Some, IfSome}
use Rattle.laws.specs.Loops.{steps}
use Rattle.text.specs.Text.{ascii, starts}
use Rattle.words.specs.Words.{number, number_bytes}
use Rattle.wav.specs.declared.Place.{Place}
use Rattle.wav.specs.declared.Found.{Found}
use Rattle.wav.specs.declared.Fault.{Fault}
use Rattle.wav.specs.declared.Fault.TheVariants.{NoWave, NoData, NoFormat, OtherFormat, NotMono, Not8000, OtherBits}

-- the number of n bytes at a place, low byte first, of which the first eight count
unfoldable pub field : List ℕ → ℕ → ℕ → ℕ
field l at n = number (take 8 (take n (drop at l)))

-- the place behind so many bytes, and one more where they are odd; the end, where they reach behind it
unfoldable pub behind : ℕ → ℕ → ℕ → ℕ
behind at size end = cond (ltb size (end - at)) (at + size + size % 2) end

-- whether a whole head of a chunk of this name is at a place
unfoldable pub named : List ℕ → List ℕ → ℕ → Bool
named name l at = cond (ltb (length l - at) 8) false (starts name (drop at l))

-- places inside of the bytes
pub record Inside (l : List ℕ) (p : Place) : Type 0 where
  pub chunk : p.at ≤ length l
  pub form : IfSome p.format (λ at. at ≤ length l)

-- the chunk behind the one at a place; that of the samples is not left, nor one without a whole head
unfoldable pub next : List ℕ → Place → Place
next l p =
    let to : ℕ = behind (p.at + 8) (field l (p.at + 4) 4) (length l) in
    cond (ltb (length l - p.at) 8) p
    (cond (named (ascii "data") l p.at) p
    (record { at = to; format = cond (named (ascii "fmt ") l p.at) (Some (p.at + 8)) p.format }))

-- the chunk of the samples, or where none follows: at most 64 others are passed, and the first is behind `RIFF`, which the caller has seen, a length and `WAVE`
unfoldable pub last : List ℕ → Place
last l = steps (λ (k : ℕ) (p : Place). next l p) 64 (record { at = 12; format = None })

-- whether samples of the format at a place can be taken, or why not: the tag and the bits of a sample must be those asked for; behind the tag come the channels, the rate, six other bytes,
-- the bits of a sample
unfoldable pub fault : List ℕ → Option ℕ → ℕ → ℕ → Result (Unit {0}) Fault
fault l None tag bits = Err NoFormat
fault l (Some at) tag bits =
    cond (ltb (length l - at) 16) (Err NoFormat)
    (cond (eqb (field l at 2) tag)
    (cond (eqb (field l (at + 2) 2) 1)
    (cond (eqb (field l (at + 4) 4) 8000)
    (cond (eqb (field l (at + 14) 2) bits) (Ok tt) (Err OtherBits))
    (Err Not8000)) (Err NotMono)) (Err OtherFormat))

-- samples that are found where they can be taken
unfoldable pub found : Result (Unit {0}) Fault → Found → Result Found Fault
found (Ok u) h = Ok h
found (Err e) h = Err e

-- the samples of the chunk at a place
unfoldable pub samples : List ℕ → Place → ℕ → ℕ → Result Found Fault
samples l p tag bits =
    cond (named (ascii "data") l p.at) (found (fault l p.format tag bits) (record { from = p.at + 8; bytes = field l (p.at + 4) 4 })) (Err NoData)

-- those of a file that begins with these bytes
unfoldable pub look : List ℕ → ℕ → ℕ → Result Found Fault
look l tag bits = cond (ltb (length l) 12) (Err NoWave) (cond (starts (ascii "WAVE") (drop 8 l)) (samples l (last l) tag bits) (Err NoWave))

-- ---- the header of a new file

-- how many samples of so many bytes each there are in `size` bytes
unfoldable pub count : ℕ → ℕ → ℕ
count size each = cond (eqb each 0) 0 (size / each)

-- behind `RIFF` the length of the file without its first eight bytes; `fmt `: the tag, one channel, samples and bytes a second, bytes and bits of a sample, nothing further; `fact`: how many samples
unfoldable pub header : ℕ → ℕ → ℕ → List ℕ
header tag bits size =
    let each : ℕ = bits / 8 in
    ascii "RIFF" ++ number_bytes 4 (50 + size + size % 2) ++ ascii "WAVE"
    ++ ascii "fmt " ++ number_bytes 4 18 ++ number_bytes 2 tag ++ number_bytes 2 1 ++ number_bytes 4 8000 ++ number_bytes 4 (8000 * each) ++ number_bytes 2 each ++ number_bytes 2 bits ++ number_bytes 2 0
    ++ ascii "fact" ++ number_bytes 4 4 ++ number_bytes 4 (count size each)
    ++ ascii "data" ++ number_bytes 4 size
