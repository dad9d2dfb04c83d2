-- What the first octets of a packet tell about its length.
use Rattle.std.specs.Prelude.{ℕ, zero, suc, ◌+◌, ◌*◌, List, [], ◌∷◌, nat_lt, if◌then◌else◌}
use Rattle.h4_framing.specs.declared.refusal.H4Refusal.TheVariants.{BadIndicator, AclTooLong}
use Rattle.h4_framing.specs.declared.extent.Extent.{Extent}
use Rattle.h4_framing.specs.declared.extent.Extent.TheVariants.{AtLeast, Known, Refused}

-- an ACL packet with that length field
abbrev pub acl_extent : ℕ → ℕ → Extent
acl_extent limit size = if nat_lt limit size then Refused AclTooLong 4 else Known (5 + size)

-- by the length field where it stands among the octets, else by how many octets lead up to it
unfoldable pub extent : ℕ → List ℕ → Extent
extent limit [] = AtLeast 1
extent limit (suc zero ∷ a ∷ b ∷ size ∷ octets) = Known (4 + size)
extent limit (suc zero ∷ octets) = AtLeast 4
extent limit (suc (suc zero) ∷ a ∷ b ∷ low ∷ high ∷ octets) = acl_extent limit (low + 256 * high)
extent limit (suc (suc zero) ∷ octets) = AtLeast 5
extent limit (suc (suc (suc zero)) ∷ a ∷ b ∷ size ∷ octets) = Known (4 + size)
extent limit (suc (suc (suc zero)) ∷ octets) = AtLeast 4
extent limit (suc (suc (suc (suc zero))) ∷ code ∷ size ∷ octets) = Known (3 + size)
extent limit (suc (suc (suc (suc zero))) ∷ octets) = AtLeast 3
extent limit (indicator ∷ octets) = Refused BadIndicator 0
