-- The end of a client, as its profile (this project's own).
use Rattle.std.specs.Prelude.{ℕ, ◌≡◌, ◌≤◌, ◌+◌, Bool, true, false, List, [], ◌∷◌, length, Option, Some, Result, Ok, Err, IfSome, if◌then◌else◌}
use Rattle.std.specs.List.{AllByRecursion}
use Rattle.std.specs.Option.{option_map}
use Rattle.bt_base.specs.Counts.{HasRisen}
use Rattle.bt_base.specs.Numbers.{IsCid, IsPsm}
use Rattle.bt_base.specs.Objects.{Object, octets_of}
use Rattle.bt_base.specs.declared.settings.Settings.{Settings}
use Rattle.host_link.specs.declared.role.Role.TheVariants.{Client}
use Rattle.bt_base.specs.declared.ports.PortFault.{PortFault}
use Rattle.bt_base.specs.declared.ports.PortFault.TheVariants.{Failed, NoMemory}
use Rattle.shelf_model.specs.obex_session.specs.Counting.{HasRisenBy}
use Rattle.push_model.specs.Client as push
use Rattle.push_model.specs.Laws.{links}
use Rattle.push_model.specs.Steps.{Part as Octets}
use Rattle.push_model.specs.declared.course.Point.TheVariants.{Due}
use Rattle.push_model.specs.declared.course.Stage.TheVariants.{Link}
use Rattle.shelf_model.specs.host_model.specs.Circumstances.{Circumstance, Size, Part, Stored, parts_in}
use Rattle.shelf_model.specs.host_model.specs.Clients as model
use Rattle.shelf_model.specs.host_model.specs.Clients.{ClientProfile, client_profile}
use Rattle.shelf_model.specs.host_model.specs.Endpoints.{Endpoint}
use Rattle.shelf_model.specs.Held.{longest_octets, IsHeld}
use Rattle.bt_host.specs.Noting.{Noted, unnoted}
use Rattle.bt_host.specs.Stacks.{Stacked, fresh_stack}
use Rattle.bt_host.specs.declared.client_end.Bid.{Bid}
use Rattle.bt_host.specs.declared.client_end.Bid.TheVariants.{Nothing, Paging}

abbrev pub bid_of : Bid → model.Bid
bid_of Nothing = model.NoBid
bid_of Paging = model.Paging

-- with what its shelf is to answer
abbrev pub pushing : ClientProfile → List Circumstance → ClientProfile
pushing end rest = record end { parts = parts_in rest }

abbrev pub HasCid : Endpoint → Type 0
HasCid endpoint = IsCid endpoint.own

-- It was not short of memory, the link of its push is asked for, the PSM of its object is one, and so are its endpoints.
pub record Pushes (end : ClientProfile) : Type 0 where
  pub works : end.client.failed ≡ false
  pub called : links end.client.stage ≡ 0
  pub psm : IsPsm end.client.psm
  pub endpoints : AllByRecursion HasCid end.endpoints

-- its link is to be asked for
pub record IsDue (client : push.Client) : Type 0 where
  pub stage : client.stage ≡ Link Due
  pub works : client.failed ≡ false
  pub free : client.given ≡ false

-- ---- the answers of a shelf

-- it is no want of memory
abbrev pub FoundMemory : {A : Type 0} → Result A PortFault → Type 0
FoundMemory (Ok given) = Unit {0}
FoundMemory (Err Failed) = Unit {0}
FoundMemory (Err NoMemory) = ⊥

-- the length of an object that it has, a number of four octets, or octets of one that stand there, or that it failed
abbrev pub IsOf : Option (List Object) → Circumstance → Type 0
IsOf content (Size (Ok size)) = (size ≤ longest_octets) × IfSome content (λ objects. (name : List ℕ) × (option_map length (octets_of name objects) ≡ Some size))
IsOf content (Size (Err fault)) = FoundMemory {A = ℕ} (Err fault)
IsOf content (Part excerpt) = IsHeld content excerpt × FoundMemory excerpt.answer
IsOf content (Stored answer) = ⊥

abbrev pub has_failed : Octets → Bool
has_failed (Ok part) = false
has_failed (Err Failed) = true
has_failed (Err NoMemory) = false

abbrev pub is_failure : Circumstance → Bool
is_failure (Size (Ok size)) = false
is_failure (Size (Err Failed)) = true
is_failure (Size (Err NoMemory)) = false
is_failure (Part excerpt) = has_failed excerpt.answer
is_failure (Stored answer) = false

-- how many of its answers say that a call failed
abbrev pub failures_in : List Circumstance → ℕ
failures_in [] = 0
failures_in (answer ∷ answers) = (if is_failure answer then 1 else 0) + failures_in answers

-- A shelf gave these answers: it has what it tells, found its memory, and its count rose with each that says that it failed. What it has stays.
pub record AreOf (content content' : Option (List Object)) (faults faults' shortages shortages' : ℕ) (used : List Circumstance) : Type 0 where
  pub content_stays : content' ≡ content
  pub faults_stay : faults ≤ faults'
  pub shortages_stay : shortages ≤ shortages'
  pub each : AllByRecursion (IsOf content) used
  pub few : HasRisenBy (failures_in used) faults faults'

-- ---- a client as a host

-- the shelf found no memory
abbrev pub Lacks : {P : Type 0} → (P → ℕ) → P → P → Type 0
Lacks shortages first last = HasRisen (shortages first) (shortages last) × (shortages first ≤ shortages last)

-- what stands above the line before anything happened
abbrev pub new_stack : Settings → Stacked (Noted ClientProfile)
new_stack settings = fresh_stack Client settings (unnoted (client_profile settings).first)
