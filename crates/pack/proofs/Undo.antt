-- Writing and reading frames undo each other, and parity: the claims of Writing.antt, proved. Assumes nothing.
use Rattle.std.specs.Prelude.{◌≡◌, refl, Bool, true, false, cond, not, List, [], ◌∷◌, ◌++◌, ℕ, zero, suc, ◌-◌, ◌^◌, ◌<◌, T, ltb, eqb, length, get_or, take, drop}
use Rattle.std.proofs.Common.{sym, ap, ◌∙◌, subst, arith, lit<, lt→ltb, length-append, length-take, length-drop, get_or-take, eq-eqb, eqb-true}
use Rattle.std.proofs.Math.ListN.{get_or-append}
use Rattle.std.proofs.lemmas.List.{get_or_at}
use Rattle.std.proofs.Math.Facts.{and_yes, yes_and}
use Rattle.bitstream.specs.Fields.{widths, cut, fields, unpack, fields_call, answer}
use Rattle.bitstream.specs.Laws.{within}
use Rattle.pitch.specs.Pitch.{parity_ok}
use Rattle.pitch.specs.Laws.{one_passes}
use Rattle.pack.specs.Pack.{fits, octets, pack, parity_bit, with_p0, packed, write_call, write_fields, write_fields_parity}
use Rattle.pack.specs.Laws.{fields_pack, pack_fields, fields_fit}
use Rattle.pack.specs.Writing.{passes, with_other_p0, without_p0, Writing}

-- ---- what a call that is not refused was lent, and what it wrote

record Wrote (n due : ℕ) (fs bytes frame : List ℕ) : Type 0 where
  pub many : n ≡ due
  pub ten : length bytes ≡ 10
  pub fit : T (fits widths fs)
  pub is : frame ≡ pack fs

wrote : (n due : ℕ) (fs bytes frame : List ℕ) → write_call n due fs bytes ≡ answer 0 frame → Wrote n due fs bytes frame
unfolding write_call packed
wrote n due fs bytes frame = by (eqb n due) (eqb (length bytes) 10) (fits widths fs) refl refl refl
  where
    by : (p q r : Bool) → eqb n due ≡ p → eqb (length bytes) 10 ≡ q → fits widths fs ≡ r
        → cond p (cond q (cond r (answer 0 (pack fs)) (answer 15 bytes)) (answer 6 bytes)) (answer 8 bytes) ≡ answer 0 frame → Wrote n due fs bytes frame
    by true true true e f g h = record { many = eqb-true _ _ e; ten = eqb-true _ _ f; fit = rw g tt; is = cc }
    by true true false e f g h = let z : ◌≡◌ {A = ℕ} 15 0 = cc in absurd (omega arith)
    by true false r e f g h = let z : ◌≡◌ {A = ℕ} 6 0 = cc in absurd (omega arith)
    by false q r e f g h = let z : ◌≡◌ {A = ℕ} 8 0 = cc in absurd (omega arith)

-- and the other way
writes : (n due : ℕ) (fs bytes : List ℕ) → n ≡ due → length bytes ≡ 10 → T (fits widths fs) → write_call n due fs bytes ≡ answer 0 (pack fs)
unfolding write_call packed
writes n due fs bytes h k t = rw (eq-eqb _ _ h, eq-eqb _ _ k) (on (fits widths fs) t)
  where
    on : (q : Bool) → T q → cond q (answer 0 (pack fs)) (answer 15 bytes) ≡ answer 0 (pack fs)
    on true t = refl
    on false t = absurd t

wrote_fifteen : (fs bytes frame : List ℕ) → write_fields fs bytes ≡ answer 0 frame → Wrote (length fs) 15 fs bytes frame
unfolding write_fields
wrote_fifteen fs bytes frame e = wrote (length fs) 15 fs bytes frame e

writes_fifteen : (fs bytes : List ℕ) → length fs ≡ 15 → length bytes ≡ 10 → T (fits widths fs) → write_fields fs bytes ≡ answer 0 (pack fs)
unfolding write_fields
writes_fifteen fs bytes h k t = writes (length fs) 15 fs bytes h k t

-- the fifteen of fourteen, as the second call makes them
abbrev made : List ℕ → List ℕ
made fs = with_p0 (parity_bit (get_or fs 4 0)) fs

wrote_fourteen : (fs bytes frame : List ℕ) → write_fields_parity fs bytes ≡ answer 0 frame → Wrote (length fs) 14 (made fs) bytes frame
unfolding write_fields_parity
wrote_fourteen fs bytes frame e = wrote (length fs) 14 (made fs) bytes frame e

writes_fourteen : (fs bytes : List ℕ) → length fs ≡ 14 → length bytes ≡ 10 → T (fits widths (made fs)) → write_fields_parity fs bytes ≡ answer 0 (pack (made fs))
unfolding write_fields_parity
writes_fourteen fs bytes h k t = writes (length fs) 14 (made fs) bytes h k t

-- ---- both ways

length_pack : (fs : List ℕ) → length (pack fs) ≡ 10
unfolding pack octets cut
length_pack fs = refl

length_fields : (l : List ℕ) → length (fields l) ≡ 15
unfolding fields widths cut
length_fields l = refl

read_written_proof : (fs bytes frame receiver : List ℕ) → write_fields fs bytes ≡ answer 0 frame → length receiver ≡ 15 → fields_call frame receiver ≡ answer 0 fs
unfolding fields_call
read_written_proof fs bytes frame receiver e h =
    let w = wrote_fifteen fs bytes frame e in
    rw (w.is, length_pack fs, eq-eqb _ _ h, fields_pack fs w.fit)

-- bytes are fields of eight bits that fit
octets_fit : (n : ℕ) (l : List ℕ) → length l ≡ n → ((i : ℕ) → get_or l i 0 < 256) → T (fits (octets n) l)
unfolding fits octets
octets_fit zero [] h b = tt
octets_fit zero (x ∷ l) h b = absurd (omega arith)
octets_fit (suc n) [] h b = absurd (omega arith)
octets_fit (suc n) (x ∷ l) h b = yes_and (ltb x 256) (fits (octets n) l) (lt→ltb x 256 (b 0)) (octets_fit n l (omega arith) (λ i. b (suc i)))

-- what was read, and of what
record Unpacked (frame fs : List ℕ) : Type 0 where
  pub ten : length frame ≡ 10
  pub are : fs ≡ fields frame

unpacked : (frame receiver fs : List ℕ) → fields_call frame receiver ≡ answer 0 fs → Unpacked frame fs
unfolding fields_call
unpacked frame receiver fs = by (eqb (length frame) 10) (eqb (length receiver) 15) refl
  where
    by : (p q : Bool) → eqb (length frame) 10 ≡ p → cond p (cond q (answer 0 (fields frame)) (answer 8 receiver)) (answer 6 receiver) ≡ answer 0 fs → Unpacked frame fs
    by true true e h = record { ten = eqb-true _ _ e; are = cc }
    by true false e h = let z : ◌≡◌ {A = ℕ} 8 0 = cc in absurd (omega arith)
    by false q e h = let z : ◌≡◌ {A = ℕ} 6 0 = cc in absurd (omega arith)

write_read_proof : (frame receiver fs bytes : List ℕ) → ((i : ℕ) → get_or frame i 0 < 256) → fields_call frame receiver ≡ answer 0 fs → length bytes ≡ 10
    → write_fields fs bytes ≡ answer 0 frame
write_read_proof frame receiver fs bytes b e h =
    let u = unpacked frame receiver fs e in
    rw u.are
    (writes_fifteen (fields frame) bytes (length_fields frame) h (fields_fit frame) ∙ ap (answer 0) (pack_fields frame (octets_fit 10 frame u.ten b)))

-- ---- parity

supplied_ok : (p1 : ℕ) → parity_ok p1 (parity_bit p1) ≡ true
unfolding parity_bit
supplied_ok p1 = by (parity_ok p1 0) refl
  where
    by : (q : Bool) → parity_ok p1 0 ≡ q → parity_ok p1 (cond q 0 1) ≡ true
    by true e = e
    by false e = one_passes p1 ∙ ap not e

other_not : (p1 : ℕ) → parity_ok p1 (1 - parity_bit p1) ≡ false
unfolding parity_bit
other_not p1 = by (parity_ok p1 0) refl
  where
    by : (q : Bool) → parity_ok p1 0 ≡ q → parity_ok p1 (1 - cond q 0 1) ≡ false
    by true e = one_passes p1 ∙ ap not e
    by false e = e

-- P1 and P0 stand at places 4 and 5
p1_at : (p0 : ℕ) (fs : List ℕ) → length fs ≡ 14 → get_or (with_p0 p0 fs) 4 0 ≡ get_or fs 4 0
unfolding with_p0
p1_at p0 fs h = get_or-append (take 5 fs) (p0 ∷ drop 5 fs) 0 4 (rw length-take (omega arith)) ∙ get_or-take 5 fs 4 0 (lit< tt)

p0_at : (p0 : ℕ) (fs : List ℕ) → length fs ≡ 14 → get_or (with_p0 p0 fs) 5 0 ≡ p0
unfolding with_p0
p0_at p0 fs h = get_or_at (take 5 fs) p0 (drop 5 fs) 0 5 (length-take 5 fs ∙ omega arith)

passes_pack : (p0 : ℕ) (fs : List ℕ) → length fs ≡ 14 → T (fits widths (with_p0 p0 fs)) → passes (pack (with_p0 p0 fs)) ≡ parity_ok (get_or fs 4 0) p0
unfolding unpack
passes_pack p0 fs h t = rw (fields_pack (with_p0 p0 fs) t, p1_at p0 fs h, p0_at p0 fs h)

-- one field exchanged for another that fits
exchanged : (us vs : List ℕ) (w a b : ℕ) (ws xs : List ℕ) → length us ≡ length vs → b < 2 ^ w → T (fits (us ++ (w ∷ ws)) (vs ++ (a ∷ xs)))
    → T (fits (us ++ (w ∷ ws)) (vs ++ (b ∷ xs)))
unfolding fits
exchanged [] [] w a b ws xs h l t = yes_and (ltb b (2 ^ w)) (fits ws xs) (lt→ltb b (2 ^ w) l) (and_yes (ltb a (2 ^ w)) (fits ws xs) t).1
exchanged [] (v ∷ vs) w a b ws xs h l t = absurd (omega arith)
exchanged (u ∷ us) [] w a b ws xs h l t = absurd (omega arith)
exchanged (u ∷ us) (v ∷ vs) w a b ws xs h l t =
    let p = and_yes (ltb v (2 ^ u)) (fits (us ++ (w ∷ ws)) (vs ++ (a ∷ xs))) t in
    yes_and (ltb v (2 ^ u)) (fits (us ++ (w ∷ ws)) (vs ++ (b ∷ xs))) p.0 (exchanged us vs w a b ws xs (omega arith) l p.1)

other_fits : (p0 q0 : ℕ) (fs : List ℕ) → length fs ≡ 14 → q0 < 2 → T (fits widths (with_p0 p0 fs)) → T (fits widths (with_p0 q0 fs))
unfolding with_p0 widths
other_fits p0 q0 fs h l t = exchanged (take 5 widths) (take 5 fs) 1 p0 q0 (drop 6 widths) (drop 5 fs) (sym (length-take 5 fs ∙ omega arith)) l t

length_with : (p0 : ℕ) (fs : List ℕ) → length fs ≡ 14 → length (with_p0 p0 fs) ≡ 15
unfolding with_p0
length_with p0 fs h = rw (length-append, length-take, length-drop) (omega arith)

-- what follows for the two frames
supplied_proof : (fs bytes frame : List ℕ) → write_fields_parity fs bytes ≡ answer 0 frame → write_fields (made fs) bytes ≡ answer 0 frame
supplied_proof fs bytes frame e =
    let w = wrote_fourteen fs bytes frame e in
    rw w.is (writes_fifteen (made fs) bytes (length_with (parity_bit (get_or fs 4 0)) fs w.many) w.ten w.fit)

passes_proof : (fs bytes frame : List ℕ) → write_fields_parity fs bytes ≡ answer 0 frame → passes frame ≡ true
passes_proof fs bytes frame e =
    let w = wrote_fourteen fs bytes frame e in
    rw w.is (passes_pack (parity_bit (get_or fs 4 0)) fs w.many w.fit ∙ supplied_ok (get_or fs 4 0))

other_fit : (fs bytes frame : List ℕ) → write_fields_parity fs bytes ≡ answer 0 frame → T (fits widths (with_other_p0 fs))
other_fit fs bytes frame e =
    let w = wrote_fourteen fs bytes frame e in
    other_fits (parity_bit (get_or fs 4 0)) (1 - parity_bit (get_or fs 4 0)) fs w.many (omega arith) w.fit

other_written_proof : (fs bytes frame : List ℕ) → write_fields_parity fs bytes ≡ answer 0 frame → write_fields (with_other_p0 fs) bytes ≡ answer 0 (pack (with_other_p0 fs))
other_written_proof fs bytes frame e =
    let w = wrote_fourteen fs bytes frame e in
    writes_fifteen (with_other_p0 fs) bytes (length_with (1 - parity_bit (get_or fs 4 0)) fs w.many) w.ten (other_fit fs bytes frame e)

other_fails_proof : (fs bytes frame : List ℕ) → write_fields_parity fs bytes ≡ answer 0 frame → passes (pack (with_other_p0 fs)) ≡ false
other_fails_proof fs bytes frame e =
    let w = wrote_fourteen fs bytes frame e in
    passes_pack (1 - parity_bit (get_or fs 4 0)) fs w.many (other_fit fs bytes frame e) ∙ other_not (get_or fs 4 0)

-- ---- a frame that passes parity, by its fields without P0

bit_is : (p1 p0 : ℕ) → p0 < 2 → parity_ok p1 p0 ≡ true → parity_bit p1 ≡ p0
unfolding parity_bit
bit_is p1 zero h e = rw e
bit_is p1 (suc zero) h e = by (parity_ok p1 0) (sym (one_passes p1) ∙ e)
  where
    by : (q : Bool) → not q ≡ true → ◌≡◌ {A = ℕ} (cond q 0 1) 1
    by true f = absurd (subst T (sym f) tt)
    by false f = refl
bit_is p1 (suc (suc n)) h e = absurd (omega arith)

put_back : (frame : List ℕ) → with_p0 (unpack frame).p0 (without_p0 (fields frame)) ≡ fields frame
unfolding with_p0 without_p0 unpack fields widths cut
put_back frame = refl

p1_kept : (frame : List ℕ) → get_or (without_p0 (fields frame)) 4 0 ≡ (unpack frame).p1
unfolding without_p0 unpack fields widths cut
p1_kept frame = refl

length_without : (frame : List ℕ) → length (without_p0 (fields frame)) ≡ 14
unfolding without_p0 fields widths cut
length_without frame = refl

made_is : (frame : List ℕ) → passes frame ≡ true → made (without_p0 (fields frame)) ≡ fields frame
made_is frame g =
    let b = ap parity_bit (p1_kept frame) ∙ bit_is (unpack frame).p1 (unpack frame).p0 (within frame).p0 g in
    ap (λ (p0 : ℕ). with_p0 p0 (without_p0 (fields frame))) b ∙ put_back frame

parity_write_read_proof : (frame receiver fs bytes : List ℕ) → ((i : ℕ) → get_or frame i 0 < 256) → fields_call frame receiver ≡ answer 0 fs → passes frame ≡ true → length bytes ≡ 10
    → write_fields_parity (without_p0 fs) bytes ≡ answer 0 frame
parity_write_read_proof frame receiver fs bytes b e g h =
    let u = unpacked frame receiver fs e in
    let l = without_p0 (fields frame) in
    rw u.are
    (writes_fourteen l bytes (length_without frame) h (subst (λ (x : List ℕ). T (fits widths x)) (sym (made_is frame g)) (fields_fit frame))
    ∙ ap (λ (x : List ℕ). answer 0 (pack x)) (made_is frame g)
    ∙ ap (answer 0) (pack_fields frame (octets_fit 10 frame u.ten b)))

pub writing : Writing
writing =
    record {
      read_written = read_written_proof;
      write_read = write_read_proof;
      supplied = supplied_proof;
      supplied_passes = passes_proof;
      other_written = other_written_proof;
      other_fails = other_fails_proof;
      parity_write_read = parity_write_read_proof;
    }
