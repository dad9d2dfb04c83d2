-- What stands at the front of a stream of packets that a client holds (IrOBEX 1.5, 2.2).
use Rattle.std.proofs.Common.{◌≡◌, ℕ, ◌+◌, ◌<◌, ◌≤◌, Bool, true, false, nat_lt, List, [], ◌++◌, length, take, drop, refl, sym, ap, ap₂, ◌∙◌, inl, inr, arith, if◌then◌else◌}
use Rattle.std.proofs.lemmas.Bool.{ltb-true, ltb-false}
use Rattle.std.proofs.lemmas.List.{length-append, length-drop, take-append-drop}
use Rattle.scenario_laws.specs.obex_headers.specs.declared.fault.ObexRefusal.TheVariants.{AboveMaximum, BadLength}
use Rattle.scenario_laws.specs.obex_headers.specs.Assembling.{stated_len, IsPartial}
use Rattle.scenario_laws.specs.obex_headers.proofs.AssemblerLaws.{is_joined}
use Rattle.scenario_laws.specs.push_model.specs.Streams.{Front, Whole, Partial, Broken, front_of}

-- the front by its four tests
abbrev by_tests : (few above below cut : Bool) → (packet rest : List ℕ) → Front
by_tests few above below cut packet rest = if few then Partial else if above then Broken AboveMaximum else if below then Broken BadLength else if cut then Partial else Whole packet rest

-- ---- a whole packet

pub record IsWhole (stream packet rest : List ℕ) : Type 0 where
  pub is : stream ≡ packet ++ rest
  pub least : 3 ≤ stated_len stream
  pub within : stated_len stream ≤ length stream
  pub left : length rest + stated_len stream ≡ length stream

pub whole_front : (maximum : ℕ) (stream packet rest : List ℕ) → front_of maximum stream ≡ Whole packet rest → IsWhole stream packet rest
unfolding front_of
whole_front maximum stream packet rest is = by (nat_lt (length stream) 3) (nat_lt maximum (stated_len stream)) (nat_lt (stated_len stream) 3) (nat_lt (length stream) (stated_len stream)) refl refl is
  where
    size : ℕ
    size = stated_len stream

    by : (few above below cut : Bool) → nat_lt size 3 ≡ below → nat_lt (length stream) size ≡ cut → by_tests few above below cut (take size stream) (drop size stream) ≡ Whole packet rest → IsWhole stream packet rest
    by true above below cut small more same = cc
    by false true below cut small more same = cc
    by false false true cut small more same = cc
    by false false false true small more same = cc
    by false false false false small more same =
        let one : take size stream ≡ packet = cc in
        let two : drop size stream ≡ rest = cc in
        let least : 3 ≤ size = ltb-false size 3 small in
        let within : size ≤ length stream = ltb-false (length stream) size more in
        record {
          is = sym (take-append-drop size stream) ∙ ap₂ (λ (x y : List ℕ). x ++ y) one two;
          least = least;
          within = within;
          left = left two within;
        }
      where
        left : drop size stream ≡ rest → size ≤ length stream → length rest + size ≡ length stream
        left is' within = let same : length (drop size stream) ≡ length rest = ap length is' in omega (arith, length-drop size stream, within, same)

-- ---- less than one

abbrev pub IsShort : List ℕ → Type 0
IsShort held = IsPartial (stated_len held) held

pub none_short : (held : List ℕ) → held ≡ [] → IsShort held
none_short held none = let same : length held ≡ 0 = ap length none in inl (omega (arith, same))

pub partial_short : (maximum : ℕ) (held : List ℕ) → front_of maximum held ≡ Partial → IsShort held
unfolding front_of
partial_short maximum held is = by (nat_lt (length held) 3) (nat_lt maximum (stated_len held)) (nat_lt (stated_len held) 3) (nat_lt (length held) (stated_len held)) refl refl refl is
  where
    by : (few above below cut : Bool) → nat_lt (length held) 3 ≡ few → nat_lt (stated_len held) 3 ≡ below → nat_lt (length held) (stated_len held) ≡ cut
        → by_tests few above below cut (take (stated_len held) held) (drop (stated_len held) held) ≡ Partial → IsShort held
    by true above below cut short small more same = inl (ltb-true (length held) 3 short)
    by false true below cut short small more same = cc
    by false false true cut short small more same = cc
    by false false false true short small more same = inr (ltb-false (stated_len held) 3 small, omega arith, ltb-true (length held) (stated_len held) more)
    by false false false false short small more same = cc

-- ---- what is left behind the first packet

-- of a stream fewer octets are left
abbrev pub Leaves : (most : ℕ) → List ℕ → Type 0
Leaves most stream = (maximum : ℕ) (packet rest : List ℕ) → front_of maximum stream ≡ Whole packet rest → length rest < most

-- behind less than a packet the first one ends in what came
pub came_leaves : (held octets : List ℕ) → IsShort held → Leaves (length octets) (held ++ octets)
came_leaves held octets short maximum packet rest is =
    let whole = whole_front maximum (held ++ octets) packet rest is in
    let size = stated_len (held ++ octets) in
    let least = whole.least in
    let within = whole.within in
    let left = whole.left in
    let joined = is_joined (stated_len held + size) held octets size refl (most_short (stated_len held + size) (omega arith) short) least (omega arith) (omega (arith, length-append held octets, within)) in
    let used = joined.0 in
    omega (arith, length-append held octets, least, used, left)
  where
    most_short : (most : ℕ) → stated_len held ≤ most → IsShort held → IsPartial most held
    most_short most above (inl few) = inl few
    most_short most above (inr some) = inr (some.0, above, some.2)

pub rest_leaves : (most : ℕ) (stream : List ℕ) → length stream < most → Leaves most stream
rest_leaves most stream less maximum packet rest is =
    let left = (whole_front maximum stream packet rest is).left in
    omega (arith, left, less)
