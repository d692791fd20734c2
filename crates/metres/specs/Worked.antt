-- Coordinates by their bits, and their ticks.
use Rattle.std.specs.Prelude.{◌≡◌, pos, negsuc}
use Rattle.std.specs.Float.{binary64}
use Rattle.std.specs.Float.Ieee.{of_bits}
use Rattle.metres.specs.Tick.{tick_of}

pub record WorkedTicks : Type 0 where
  -- 0.00015 m, a little below one and a half
  pub below : tick_of (of_bits binary64 0x3f23_a92a_3055_3261) ≡ pos 1
  -- 0.00035 m, whose product is rounded to three and a half
  pub above : tick_of (of_bits binary64 0x3f36_f006_8db8_bac7) ≡ pos 4
  -- 15,000 m
  pub most : tick_of (of_bits binary64 0x40cd_4c00_0000_0000) ≡ pos 150000000
  -- −0
  pub zero : tick_of (of_bits binary64 0x8000_0000_0000_0000) ≡ pos 0
  -- 3.00025 m lies below 30,002.5 ticks, and −14,999.99995 m above −149,999,999.5: the float unit's rounding makes each a half
  pub half : tick_of (of_bits binary64 0x4008_0083_126e_978d) ≡ pos 30003
  pub half_below : tick_of (of_bits binary64 0xc0cd_4bff_fe5c_91d1) ≡ negsuc 149999999
