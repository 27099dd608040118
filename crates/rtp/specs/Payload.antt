-- What change request 1 claims of the frames of a payload, on the definitions of the calls; proved in Parts.antt.
use Rattle.std.specs.Prelude.{◌≡◌, List, [], ◌++◌, ℕ, zero, suc, ◌+◌, ◌/◌, ◌%◌, ◌≤◌, ◌<◌, length}
use Rattle.kind.specs.Kind.{payload_length}
use Rattle.rtp.specs.Rtp.{frames, find, part}

-- the first m parts, joined in index order
unfoldable pub joined : List ℕ → ℕ → List ℕ
joined l zero = []
joined l (suc m) = joined l m ++ part l m

pub record Payload : Type 0 where
  -- which lengths are taken: voice frames of ten bytes each, or these and two bytes more
  pub voice_alone : (n : ℕ) → n % 10 ≡ 0 → frames n ≡ record { code = 0; frames = n / 10 }
  pub voice_and_sid : (n : ℕ) → n % 10 ≡ 2 → frames n ≡ record { code = 0; frames = n / 10 + 1 }
  pub no_other : (n : ℕ) → (n % 10 ≡ 0 → ⊥) → (n % 10 ≡ 2 → ⊥) → frames n ≡ record { code = 12; frames = 0 }
  -- an empty payload has 0 frames
  pub empty : frames 0 ≡ record { code = 0; frames = 0 }
  -- joined in index order, the parts are the payload
  pub parts_joined : (l : List ℕ) → (frames (length l)).code ≡ 0 → joined l (frames (length l)).frames ≡ l
  -- a frame is found just below the number of frames
  pub found : (n k : ℕ) → (frames n).code ≡ 0 → k < (frames n).frames → (find n k).code ≡ 0
  pub past : (n k : ℕ) → (frames n).code ≡ 0 → (frames n).frames ≤ k → (find n k).code ≡ 13
  -- a length that the count refuses is refused whatever the index, with the same number
  pub first : (n k : ℕ) → ((frames n).code ≡ 0 → ⊥) → ((frames n).code ≡ 12) × ((find n k).code ≡ 12)
  -- a frame is voice or SID, and a SID is the last
  pub voice_or_sid : (n k : ℕ) → (find n k).kind ≤ 1
  pub sid_last : (n k : ℕ) → (find n k).kind ≡ 1 → k + 1 ≡ (frames n).frames
  -- a part lies within the payload, and has the length that Frame asks for its kind
  pub part_within : (n k : ℕ) → (find n k).start + (find n k).length ≤ n
  pub part_length : (l : List ℕ) (k : ℕ) → (find (length l) k).code ≡ 0 → length (part l k) ≡ payload_length (find (length l) k).kind
  -- a refused call hands back an empty part, and a count of 0
  pub refused_empty : (l : List ℕ) (k : ℕ) → ((find (length l) k).code ≡ 0 → ⊥) → part l k ≡ []
  pub refused_none : (n : ℕ) → ((frames n).code ≡ 0 → ⊥) → (frames n).frames ≡ 0
