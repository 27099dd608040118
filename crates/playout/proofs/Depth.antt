-- A call with a greater depth: it is not refused either, and loses no frame that was played. Assumes nothing.
use Rattle.std.specs.Prelude.{Ok}
use Rattle.std.specs.Prelude.{◌≡◌, ℕ, ◌≤◌, length, get_or}
use Rattle.std.proofs.Math.Path.{refl}
use Rattle.std.proofs.Common.{sym, ap, ◌∙◌}
use mathlib.Core.List.{List}
use Rattle.playout.specs.Playout.{arrivals, kinds, lost, answer, playout}
use Rattle.playout.specs.Laws.{kinds_at, playout_done}
use Rattle.playout.proofs.Laws.{done}
use Rattle.playout.specs.Depth.{deeper, fewer, Deeper}

pub call_deeper : (f s d e : ℕ) (ns ts before again : List ℕ) (m : ℕ) (ks : List ℕ) → playout f s d ns ts before ≡ answer (Ok m) ks → d ≤ e → length again ≡ length before → Deeper f s e ns ts again m ks
call_deeper f s d e ns ts before again m ks g h b =
    let w = done f s d ns ts before m ks g in
    record {
      count = lost (kinds s e (arrivals ns ts) f);
      after = kinds s e (arrivals ns ts) f;
      given = sym (playout_done f s e ns ts again 0 (rw b (sym w.0)) refl (lost (kinds s e (arrivals ns ts) f)) (kinds s e (arrivals ns ts) f) refl refl);
      fewer = rw w.1 (fewer s d e h (arrivals ns ts) f);
      played = λ i c z.
          kinds_at s e (arrivals ns ts) f i 3 c ∙ deeper s d e h (arrivals ns ts) i (sym (kinds_at s d (arrivals ns ts) f i 3 c) ∙ ap (λ (x : List ℕ). get_or x i 3) (sym w.2) ∙ z);
    }
