-- A word is known by its text, and each text that is read is a word's.
use Rattle.std.proofs.Common.{◌≡◌, ℕ, ◌≤◌, Bool, true, false, cond, List, ◌∷◌, ◌++◌, Option, Some, None, refl, sym, ap, subst, ◌∙◌}
use Rattle.std.specs.Prelude.{codes, nat_lt, decimal}
use Rattle.std.proofs.lemmas.Bool.{ltb-false}
use Rattle.push_terms.specs.declared.word.Word.{Word}
use Rattle.push_terms.specs.declared.word.Word.TheVariants.{Pass, Lose, Repeat, Damage, Cut, Timer, Drop, Cancel}
use Rattle.script_words.specs.declared.said.Said.{Said}
use Rattle.script_words.specs.declared.said.Said.TheVariants as said
use Rattle.push_terms.specs.Words.{hex_word, way_text, side_text, word_text, IsWord}
use Rattle.script_words.specs.Parts.{and_then, first_word, rest_of, number_of, way_of, side_of, mask_of}
use Rattle.script_words.specs.Words.{SaysWord, damage_said, cut_said, long_said, short_said, said_behind, said_of, number_within, word_within, word_read}
use Rattle.script_words.specs.Laws.{OneWord}
use Rattle.script_words.proofs.WordsAgain.{damage_text, cut_text, said_by, said_again, word_again_within}
use Rattle.script_words.proofs.Written.{some_of, none_some, then_from, Gives, gives_none, gives_some, gives_then, gives_choice, line_parted, line_whole, number_written, mask_written, way_written, side_written}

-- ---- what was written is read

then_at : {A B : Type 0} (o : Option A) (f : A → Option B) (x : A) → o ≡ Some x → and_then o f ≡ f x
then_at o f x e = rw e refl

pub word_again : (word : Word) → IsWord word → word_read (word_text word) ≡ Some word
word_again word is = then_at (said_of (word_text word)) word_within (said_by word) (said_again word is) ∙ word_again_within word is

pub one_word : OneWord
one_word text word other is are = some_of (sym (word_again word is.0) ∙ ap word_read (sym is.1 ∙ are.1) ∙ word_again other are.0)

-- ---- what is read was written

-- the word that was said, whatever its numbers
abbrev word_by : Said → Word
word_by said.Pass = Pass
word_by (said.Lose way) = Lose way
word_by (said.Repeat way) = Repeat way
word_by (said.Damage way at mask) = Damage way at mask
word_by (said.Cut way packets) = Cut way packets
word_by (said.Timer side) = Timer side
word_by said.Drop = Drop
word_by said.Cancel = Cancel

abbrev said_text : Said → List ℕ
said_text s = word_text (word_by s)

-- the text is that of what it says
abbrev IsWritten : List ℕ → Said → Type 0
IsWritten text s = text ≡ said_text s

-- a text of two parts that are known
joined : (first rest word tail : List ℕ) (s : Said) → first ≡ word → rest ≡ tail → word ++ 32 ∷ tail ≡ said_text s → Gives (IsWritten (first ++ 32 ∷ rest)) (Some s)
joined first rest word tail s e1 e2 e3 = gives_some _ s (ap (λ (x : List ℕ). x ++ 32 ∷ rest) e1 ∙ ap (λ (x : List ℕ). word ++ 32 ∷ x) e2 ∙ e3)

-- a part of a text, and what stands behind its blank
apart : (text rest first tail : List ℕ) → rest_of text ≡ Some rest → first_word text ≡ first → rest ≡ tail → text ≡ first ++ 32 ∷ tail
apart text rest first tail e1 e2 e3 = line_parted text rest e1 ∙ ap (λ (x : List ℕ). x ++ 32 ∷ rest) e2 ∙ ap (λ (x : List ℕ). first ++ 32 ∷ x) e3

damage_written : (word rest : List ℕ) → word ≡ codes "damage" → Gives (IsWritten (word ++ 32 ∷ rest)) (damage_said rest)
unfolding damage_said
damage_written word rest is =
    gives_then _ (way_of (first_word rest)) _ (λ way e1.
    gives_then _ (rest_of rest) _ (λ behind e2.
    gives_then _ (number_of (first_word behind)) _ (λ at e3.
    gives_then _ (rest_of behind) _ (λ last e4.
    gives_then _ (mask_of last) _ (λ mask e5.
    let tail : behind ≡ decimal at ++ 32 ∷ hex_word mask = apart behind last (decimal at) (hex_word mask) e4 (number_written (first_word behind) at e3) (mask_written last mask e5) in
    let whole : rest ≡ way_text way ++ 32 ∷ (decimal at ++ 32 ∷ hex_word mask) = apart rest behind (way_text way) (decimal at ++ 32 ∷ hex_word mask) e2 (way_written (first_word rest) way e1) tail in
    joined word rest (codes "damage") (way_text way ++ 32 ∷ (decimal at ++ 32 ∷ hex_word mask)) (said.Damage way at mask) is whole (sym (damage_text way at mask)))))))

cut_written : (word rest : List ℕ) → word ≡ codes "cut" → Gives (IsWritten (word ++ 32 ∷ rest)) (cut_said rest)
unfolding cut_said
cut_written word rest is =
    gives_then _ (way_of (first_word rest)) _ (λ way e1.
    gives_then _ (rest_of rest) _ (λ behind e2.
    gives_then _ (number_of behind) _ (λ packets e3.
    let whole : rest ≡ way_text way ++ 32 ∷ decimal packets = apart rest behind (way_text way) (decimal packets) e2 (way_written (first_word rest) way e1) (number_written behind packets e3) in
    joined word rest (codes "cut") (way_text way ++ 32 ∷ decimal packets) (said.Cut way packets) is whole (sym (cut_text way packets)))))

long_written : (word rest : List ℕ) → Gives (IsWritten (word ++ 32 ∷ rest)) (long_said word rest)
unfolding long_said
long_written word rest =
    gives_choice _ word (codes "lose") _ _ (λ is. gives_then _ (way_of rest) _ (λ way e. joined word rest (codes "lose") (way_text way) (said.Lose way) is (way_written rest way e) refl)) (
    gives_choice _ word (codes "repeat") _ _ (λ is. gives_then _ (way_of rest) _ (λ way e. joined word rest (codes "repeat") (way_text way) (said.Repeat way) is (way_written rest way e) refl)) (
    gives_choice _ word (codes "damage") _ _ (damage_written word rest) (
    gives_choice _ word (codes "cut") _ _ (cut_written word rest) (
    gives_choice _ word (codes "timer") _ _ (λ is. gives_then _ (side_of rest) _ (λ side e. joined word rest (codes "timer") (side_text side) (said.Timer side) is (side_written rest side e) refl))
    (gives_none _)))))

short_written : (word : List ℕ) → Gives (IsWritten word) (short_said word)
short_written word =
    gives_choice _ word (codes "pass") _ _ (λ is. gives_some _ said.Pass is) (
    gives_choice _ word (codes "drop") _ _ (λ is. gives_some _ said.Drop is) (
    gives_choice _ word (codes "cancel") _ _ (λ is. gives_some _ said.Cancel is)
    (gives_none _)))

behind_written : (text : List ℕ) (s : Said) (rest : Option (List ℕ)) → rest_of text ≡ rest → said_behind (first_word text) rest ≡ Some s → text ≡ said_text s
behind_written text s (Some rest) is e = line_parted text rest is ∙ long_written (first_word text) rest s e
behind_written text s None is e = sym (line_whole text is) ∙ short_written (first_word text) s e

said_written : (text : List ℕ) (s : Said) → said_of text ≡ Some s → text ≡ said_text s
unfolding said_of
said_written text s e = behind_written text s (rest_of text) refl e

-- ---- the ranges of numbers

range_from : (n m : ℕ) (below above : Bool) → cond below None (cond above None (Some n)) ≡ Some m → (below ≡ false) × (above ≡ false) × (n ≡ m)
range_from n m true above e = absurd (none_some e)
range_from n m false true e = absurd (none_some e)
range_from n m false false e = (refl, refl, some_of e)

range_known : (low high n m : ℕ) → number_within low high n ≡ Some m → (low ≤ n) × (n ≤ high) × (n ≡ m)
range_known low high n m e = let found = range_from n m (nat_lt n low) (nat_lt high n) e in (ltb-false n low found.0, ltb-false high n found.1, found.2)

within_written : (s : Said) (word : Word) → word_within s ≡ Some word → IsWord word × (word_by s ≡ word)
unfolding word_within
within_written said.Pass word e = subst (λ w. IsWord w × (Pass ≡ w)) (some_of e) (tt, refl)
within_written (said.Lose way) word e = subst (λ w. IsWord w × (Lose way ≡ w)) (some_of e) (tt, refl)
within_written (said.Repeat way) word e = subst (λ w. IsWord w × (Repeat way ≡ w)) (some_of e) (tt, refl)
within_written (said.Damage way at mask) word e =
    let place = then_from (number_within 4 65534 at) _ word e in
    let change = then_from (number_within 1 65535 mask) _ word place.2 in
    let at-is = range_known 4 65534 at place.0 place.1 in
    let mask-is = range_known 1 65535 mask change.0 change.1 in
    let same : Damage way at mask ≡ word = ap (λ (n : ℕ). Damage way n mask) at-is.2 ∙ ap (λ (n : ℕ). Damage way place.0 n) mask-is.2 ∙ some_of change.2 in
    subst (λ w. IsWord w × (Damage way at mask ≡ w)) same ((at-is.0, at-is.1, mask-is.0, mask-is.1), refl)
within_written (said.Cut way packets) word e =
    let some = then_from (number_within 1 65535 packets) _ word e in
    let is = range_known 1 65535 packets some.0 some.1 in
    let same : Cut way packets ≡ word = ap (λ (n : ℕ). Cut way n) is.2 ∙ some_of some.2 in
    subst (λ w. IsWord w × (Cut way packets ≡ w)) same ((is.0, is.1), refl)
within_written (said.Timer side) word e = subst (λ w. IsWord w × (Timer side ≡ w)) (some_of e) (tt, refl)
within_written said.Drop word e = subst (λ w. IsWord w × (Drop ≡ w)) (some_of e) (tt, refl)
within_written said.Cancel word e = subst (λ w. IsWord w × (Cancel ≡ w)) (some_of e) (tt, refl)

pub word_written : (text : List ℕ) (word : Word) → word_read text ≡ Some word → SaysWord text word
word_written text word e =
    let s = then_from (said_of text) _ word e in
    let is = within_written s.0 word s.2 in
    (is.0, said_written text s.0 s.1 ∙ ap word_text is.1)
