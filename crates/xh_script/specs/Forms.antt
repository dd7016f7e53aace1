-- The table of the language: a row for each form of line.
use Rattle.std.specs.Prelude.{ℕ, ◌+◌, ◌&&◌, Bool, true, false, List, [], ◌∷◌, length, nat_le, slice_index_or, if◌then◌else◌, Result, Ok, Err, codes}
use Rattle.std.specs.Str.{bytes_eq}
use Rattle.xh_model.specs.declared.limits.TheConstants.{MAX_BLOCKS, MAX_BUDGET, MAX_ROWS}
use Rattle.xh_script.specs.declared.limits.TheConstants.{MAX_GIVEN, MAX_LEN, MAX_NUMBER, MAX_TAG}
use Rattle.xh_script.specs.declared.fault.FaultKind.{FaultKind}
use Rattle.xh_script.specs.declared.fault.FaultKind.TheVariants.{BadWord}
use Rattle.xh_script.specs.declared.form.Sort.{Sort}
use Rattle.xh_script.specs.declared.form.Sort.TheVariants as sort
use Rattle.xh_script.specs.declared.form.Form.{Form}
use Rattle.xh_script.specs.declared.form.Form.TheVariants.{Contract, Process, Wire, Open, Alloc, Split, Read, Write, Give, Take, Await, Free, Close, Exit, Kill, Glance, Again}

-- what the words of a form are: these in order, and then `least` to `most` words of the sort `more`. The form's own word does not count, and the process
-- ahead of a verb is the first word
pub record FormShape : Type 0 where
  pub words : List Sort
  pub more : Sort
  pub least : ℕ
  pub most : ℕ

abbrev pub number : Sort
number = sort.Number 0 MAX_NUMBER

abbrev pub tag : Sort
tag = sort.Number 0 MAX_TAG

abbrev pub len_sort : Sort
len_sort = sort.Number 1 MAX_LEN

abbrev pub budget : Sort
budget = sort.Number 1 MAX_BUDGET

-- these words, and then some more
abbrev pub and_more : List Sort → Sort → ℕ → ℕ → FormShape
and_more words more least most = record { words = words; more = more; least = least; most = most }

-- these words and no more
abbrev pub just : List Sort → FormShape
just words = and_more words sort.Block 0 0

unfoldable pub shape : Form → FormShape
shape Contract = and_more (sort.Contract ∷ []) sort.Row 1 MAX_ROWS
shape Process = just (sort.Process ∷ [])
shape Wire = and_more (sort.Process ∷ sort.Block ∷ sort.Process ∷ sort.Block ∷ number ∷ []) sort.Contract 0 1
shape Open = and_more (sort.Process ∷ sort.Block ∷ sort.Block ∷ number ∷ []) sort.Contract 0 1
shape Alloc = just (sort.Process ∷ sort.Block ∷ number ∷ number ∷ [])
shape Split = just (sort.Process ∷ sort.Block ∷ number ∷ sort.Block ∷ [])
shape Read = just (sort.Process ∷ sort.Block ∷ number ∷ len_sort ∷ [])
shape Write = just (sort.Process ∷ sort.Block ∷ number ∷ sort.Bytes ∷ [])
shape Give = and_more (sort.Process ∷ sort.Block ∷ tag ∷ []) sort.Block 0 MAX_GIVEN
shape Take = and_more (sort.Process ∷ sort.Block ∷ []) sort.Block 0 MAX_BLOCKS
shape Await = and_more (sort.Process ∷ sort.Block ∷ []) sort.Block 0 MAX_BLOCKS
shape Free = just (sort.Process ∷ sort.Block ∷ [])
shape Close = just (sort.Process ∷ sort.Block ∷ [])
shape Exit = and_more (sort.Process ∷ []) budget 0 1
shape Kill = and_more (sort.Process ∷ sort.Process ∷ []) budget 0 1
shape Glance = just (sort.Process ∷ sort.Process ∷ [])
shape Again = just (sort.Process ∷ [])

-- what the word at a place has to be
abbrev pub sort_at : FormShape → ℕ → Sort
sort_at row i = slice_index_or row.words i row.more

-- whether a line of the form may have so many words
abbrev pub has_count : FormShape → ℕ → Bool
has_count row count = nat_le (length row.words + row.least) count && nat_le count (length row.words + row.most)

-- the text of a form's own word
abbrev pub form_text : Form → List ℕ
form_text Contract = codes "contract"
form_text Process = codes "process"
form_text Wire = codes "wire"
form_text Open = codes "open"
form_text Alloc = codes "alloc"
form_text Split = codes "split"
form_text Read = codes "read"
form_text Write = codes "write"
form_text Give = codes "give"
form_text Take = codes "take"
form_text Await = codes "await"
form_text Free = codes "free"
form_text Close = codes "close"
form_text Exit = codes "exit"
form_text Kill = codes "kill"
form_text Glance = codes "glance"
form_text Again = codes "again"

-- the lines that begin with their own word, and stand ahead of all others
abbrev pub is_head : Form → Bool
is_head Contract = true
is_head Process = true
is_head Wire = true
is_head _ = false

-- the lines that declare a contract
abbrev pub declares : Form → Bool
declares Contract = true
declares _ = false

abbrev pub has_text : List ℕ → Form → Bool
has_text word form = bytes_eq word (form_text form)

-- the forms whose lines begin with their own word
abbrev pub heads : List Form
heads = Contract ∷ Process ∷ Wire ∷ []

-- the forms whose lines begin with a process, and their own word, a verb, behind it
abbrev pub verbs : List Form
verbs = Open ∷ Alloc ∷ Split ∷ Read ∷ Write ∷ Give ∷ Take ∷ Await ∷ Free ∷ Close ∷ Exit ∷ Kill ∷ Glance ∷ Again ∷ []

-- the first of these forms whose own word this is
abbrev pub form_among : List Form → List ℕ → Result Form FaultKind
form_among [] word = Err BadWord
form_among (form ∷ forms) word = if has_text word form then Ok form else form_among forms word
