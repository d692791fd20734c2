-- `unit::mirror::long_product` meets its contract: the two parts' products, put together, are the whole.
use mathlib.Core.Path.{◌≡◌}
use Prim.Native.Nat.{ℕ, ◌+◌, ◌*◌, ◌/◌, ◌%◌, ◌^◌, ◌<◌}
use native.Mathlib.Nat as NatL
use native.Mathlib.Omega.{arith}
use Rattle.unit.proofs.ProductLaws.{parts}
use Rattle.unit.proofs.mirror.long_product.Goals as goal
use Rattle.unit.proofs.mirror.long_product.Goals.{After-product-2}

-- h and l are the products of a with the parts of b; where the whole fits, the shift loses nothing
together : (a b h l : ℕ) → h ≡ a * (b / 4294967296) → l ≡ a * (b % 4294967296) → a * b < 2 ^ 64 → (h * 4294967296) % 18446744073709551616 + l ≡ a * b
together a b h l eh el small =
    let whole : h * 4294967296 + l ≡ a * b = cc (parts a b 4294967296) in
    let below : h * 4294967296 < 18446744073709551616 = omega arith in
    rw (NatL.mod-eq_of_lt below) whole

module _ (c : After-product-2) where
  whole : (c.product.result * 4294967296) % 18446744073709551616 + c.product-2.result ≡ c.args.a * c.args.b
  whole = together _ _ _ _ c.product.ensures c.product-2.ensures c.requires.fits

pub overflow_add-result : goal.overflow_add-result
overflow_add-result c = record { fits = omega (arith, whole c, c.requires.fits) }

pub returns : goal.returns
returns c = whole c
