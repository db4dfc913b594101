-- What a test lets through.
use Rattle.std.proofs.Common.{◌≡◌, Bool, true, false, if◌then◌else◌, Some}
use Rattle.com_model.specs.declared.deeds.Deed.{Deed}
use Rattle.com_model.specs.Lists.{where_true}

pub turned_by : (deep t : Bool) (z x y d : Deed) → deep ≡ false → where_true t x ≡ Some d → d ≡ (if deep then z else if t then x else y)
turned_by true t z x y d p e = cc
turned_by false true z x y d p e = cc
turned_by false false z x y d p e = cc
