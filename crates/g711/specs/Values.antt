-- Values that change request 8 names. Assumes nothing.
use Rattle.std.specs.Prelude.{◌≡◌, refl, pos, negsuc}
use Rattle.laws.specs.Ints.{sameZ}
use Rattle.g711.specs.G711.{mu, a, value, last, byte_of}

-- mu-law 00 and 80: -32124 and 32124
pub mu_00 : value 2 0x00 ≡ negsuc 32123
unfolding value mu
mu_00 = refl

pub mu_80 : value 2 0x80 ≡ pos 32124
unfolding value mu
mu_80 = refl

-- A-law D5 and 55: 8 and -8
pub a_d5 : value 1 0xd5 ≡ pos 8
unfolding value a
a_d5 = refl

pub a_55 : value 1 0x55 ≡ negsuc 7
unfolding value a
a_55 = refl

-- mu-law zero: 7F and FF read as it, and FF is written
pub mu_7f : value 2 0x7f ≡ pos 0
unfolding value mu
mu_7f = refl

pub mu_ff : value 2 0xff ≡ pos 0
unfolding value mu
mu_ff = refl

pub mu_zero : byte_of 2 (pos 0) ≡ 0xff
unfolding byte_of last sameZ value mu
mu_zero = refl
