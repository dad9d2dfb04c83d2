-- How far an object is on a channel, by all that was said since it began (IrOBEX 1.5, 3.1, 3.2 and 3.4.3.7). What a server
-- says there is this project's own choice.
use Rattle.std.specs.Prelude.{◌==◌, ◌&&◌, not, Bool, true, false, List, [], ◌∷◌, ◌++◌, fold, Option, Some, None, option_map, if◌then◌else◌}
use Rattle.std.specs.List.{list_any}
use Rattle.link_talk.specs.declared.course.Asked.TheVariants.{Put, Other, Refused}
use Rattle.link_talk.specs.declared.course.Course.{Course}
use Rattle.link_talk.specs.declared.course.Course.TheVariants.{Resting, Offered, Singly, Together, Silent}
use Rattle.talk_laws.specs.Words.{Word, Asks, Says, is_more_put, refuses}

-- ---- by what was said since its first PUT

-- a final PUT ends an object, and so does a packet of another kind
abbrev pub ends_object : Word → Bool
ends_object (Asks (Put final named single)) = final
ends_object (Asks Other) = true
ends_object (Asks Refused) = false
ends_object (Says code single) = false

-- outside single response mode so does a packet that is refused, and any answer but 90
abbrev pub ends_singly : Word → Bool
ends_singly (Asks (Put final named single)) = false
ends_singly (Asks Other) = false
ends_singly (Asks Refused) = true
ends_singly (Says code single) = not (code == 0x90)

abbrev pub singly_since : List Word → Course
singly_since since = if list_any ends_singly since then Resting else Singly

-- in the mode any answer but 90 says that a PUT was refused
abbrev pub together_since : List Word → Course
together_since since = if list_any refuses since then Silent else Together

-- the first answer grants the mode, or not
abbrev pub answered_since : Word → List Word → Course
answered_since (Asks asked) since = Resting
answered_since (Says code single) since = if code == 0x90 then (if single then together_since since else singly_since since) else Resting

abbrev pub offered_since : List Word → Course
offered_since [] = Offered
offered_since (word ∷ since) = if is_more_put word then offered_since since else answered_since word since

-- by whether its first PUT asked for the mode
abbrev pub course_since : Bool → List Word → Course
course_since single since = if list_any ends_object since then Resting else (if single then offered_since since else singly_since since)

-- ---- where objects begin

-- the object that began last: whether its first PUT asked for the mode, and all that was said since
pub record ObjectBegun : Type 0 where
  pub single : Bool
  pub since : List Word

abbrev pub course_now : Option ObjectBegun → Course
course_now None = Resting
course_now (Some begun) = course_since begun.single begun.since

-- a PUT that is not final begins an object where none is under way; where PUTs are passed over it has a Name
abbrev pub begins_one : Course → Word → Bool
begins_one Resting (Asks (Put final named single)) = not final
begins_one Silent (Asks (Put final named single)) = named && not final
begins_one course word = false

abbrev pub asks_single : Word → Bool
asks_single (Asks (Put final named single)) = single
asks_single word = false

abbrev pub with_word : Word → ObjectBegun → ObjectBegun
with_word word begun = record begun { since = begun.since ++ word ∷ [] }

abbrev pub begun_after : Option ObjectBegun → Word → Option ObjectBegun
begun_after last word = if begins_one (course_now last) word then Some (record { single = asks_single word; since = [] }) else option_map (with_word word) last

abbrev pub course_back : List Word → Course
course_back words = course_now (fold begun_after None words)
