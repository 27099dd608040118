-- `pack::bytes_of` meets its contract: each byte of a half is that byte of the whole.
use mathlib.Core.Path.{sym, ◌∙◌}
use mathlib.Core.List.{[], ◌∷◌}
use Prim.Native.Nat.{◌^◌, ◌<◌}
use Rattle.bitstream.specs.Fields.{sum, cut}
use Rattle.bitstream.specs.Laws.{upper, lower}
use Rattle.pack.specs.Pack.{octets}
use Rattle.std.proofs.Common.{rules}
use Rattle.pack.proofs.bytes_of.Goals as goal

pub returns : goal.returns
unfolding octets sum cut
returns c =
    let g = c.args in
    let a = g.a in
    let b = g.b in
    let low : b < 2 ^ 40 = search rules in
    λ i.
    (c.octet.ensures ∙ sym (upper a b 32 8 low)) i
    ∷ (c.octet-2.ensures ∙ sym (upper a b 24 8 low)) i
    ∷ (c.octet-3.ensures ∙ sym (upper a b 16 8 low)) i
    ∷ (c.octet-4.ensures ∙ sym (upper a b 8 8 low)) i
    ∷ (c.octet-5.ensures ∙ sym (upper a b 0 8 low)) i
    ∷ (c.octet-6.ensures ∙ sym (lower a b 0 8 32)) i
    ∷ (c.octet-7.ensures ∙ sym (lower a b 8 8 24)) i
    ∷ (c.octet-8.ensures ∙ sym (lower a b 16 8 16)) i
    ∷ (c.octet-9.ensures ∙ sym (lower a b 24 8 8)) i
    ∷ (c.octet-10.ensures ∙ sym (lower a b 32 8 0)) i
    ∷ []
