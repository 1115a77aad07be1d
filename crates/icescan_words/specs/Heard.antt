-- What the words of a command line ask for, said without a parser.
use Rattle.std.specs.Prelude.{◌≡◌, ◌⊎◌, ℕ, ◌==◌, Bool, true, false, not, ◌||◌, if◌then◌else◌, List, [], ◌∷◌}
use Rattle.std.specs.Prelude.{codes, nat_eq, option_and_then, option_map, slice_get, unwrap_or, Option, Some, None, ℤ}
use Rattle.std.specs.List.{after_first, before_first, list_any, starts_with}
use Rattle.std.specs.Str.{bytes_eq}
use Rattle.std.specs.Str.Parse.{digits_value, signed_digits_value, without_leading_plus}
use Rattle.uuid.specs.Text.{parsed}
use Rattle.icescan_forms.specs.declared.format.Format.{Format}
use Rattle.icescan_forms.specs.declared.format.Format.TheVariants as format
use Rattle.icescan_forms.specs.declared.part.Part.{Part}
use Rattle.icescan_forms.specs.declared.part.Part.TheVariants as part
use Rattle.icescan_words.specs.declared.command.Asked.{Asked}
use Rattle.icescan_words.specs.declared.command.Command.{Command}
use Rattle.icescan_words.specs.declared.command.Command.TheVariants as command
use Rattle.icescan_words.specs.declared.command.Lists.{Lists}
use Rattle.icescan_words.specs.declared.command.Lists.TheVariants as lists
use Rattle.icescan_words.specs.declared.command.Located.{Located}
use Rattle.icescan_words.specs.declared.command.Located.TheVariants as located
use Rattle.icescan_words.specs.declared.command.Relaxed.{Relaxed}
use Rattle.icescan_words.specs.declared.command.Relaxed.TheVariants as relaxed
use Rattle.icescan_words.specs.declared.command.Source.{Source}
use Rattle.icescan_words.specs.declared.command.Source.TheVariants as source
use Rattle.ice_meta.specs.declared.metadata.Target.{Target}
use Rattle.ice_meta.specs.declared.metadata.Target.TheVariants as target
use Rattle.icescan_text.specs.declared.change.ChangeKind.{ChangeKind}
use Rattle.icescan_text.specs.declared.change.ChangeKind.TheVariants as kind
use Rattle.icescan_text.specs.declared.request.ChangesRequest.{ChangesRequest}
use Rattle.icescan_text.specs.declared.request.CommitRequest.{CommitRequest}
use Rattle.ice_catalog_changes.specs.declared.change.Ids.{Ids}
use Rattle.icescan_text.specs.declared.request.Request.{Request}
use Rattle.icescan_text.specs.declared.share.Share.{Share}
use Rattle.icescan_text.specs.declared.request.Separator.TheVariants as separator
use Rattle.icescan_text.specs.declared.drill.Drill.{Drill}

-- `=`
abbrev pub is_equals : ℕ → Bool
is_equals byte = byte == 61

-- `/`
abbrev pub is_slash : ℕ → Bool
is_slash byte = byte == 47

-- the value of an option: what stands after `=` in its word, or else the next word
abbrev pub value_in : List ℕ → List (List ℕ) → Option (List ℕ)
value_in word words = if list_any is_equals word then Some (after_first is_equals word) else slice_get words 0

-- The value that the words give the option of this name, as `--ref`. A word `--` ends the options.
abbrev pub option_in : List (List ℕ) → List ℕ → Option (List ℕ)
option_in [] name = None
option_in (word ∷ words) name =
    if bytes_eq word (codes "--") then None
    else if bytes_eq (before_first is_equals word) name then value_in word words
    else option_in words name

-- an option that has no value
abbrev pub is_flag : List ℕ → Bool
is_flag word =
    bytes_eq word (codes "--bundle") || bytes_eq word (codes "--quiet") || bytes_eq word (codes "--null")
    || bytes_eq word (codes "--all") || bytes_eq word (codes "--appends") || bytes_eq word (codes "--explain")
    || bytes_eq word (codes "--no-links") || bytes_eq word (codes "--relax")

-- the word after this option is its value: the option stands without `=`, and may have a value
abbrev pub takes_next : List ℕ → Bool
takes_next word = not (list_any is_equals word || is_flag word)

-- the words that are no options and no values of options, the first word being a value or not
abbrev pub plain_from : Bool → List (List ℕ) → List (List ℕ)
plain_from is_value [] = []
plain_from true (word ∷ words) = plain_from false words
plain_from false (word ∷ words) =
    if bytes_eq word (codes "--") then words
    else if starts_with nat_eq word (codes "--") then plain_from (takes_next word) words
    else word ∷ plain_from false words

-- the command's name, and the paths that it is about
abbrev pub plain_words : List (List ℕ) → List (List ℕ)
plain_words words = plain_from false words

-- a word that asks for help or for the version; more letters may stand after `-h` and `-V`
abbrev pub asks_help : List ℕ → Bool
asks_help word =
    bytes_eq word (codes "help") || bytes_eq word (codes "--help") || bytes_eq word (codes "--version")
    || starts_with nat_eq word (codes "-h") || starts_with nat_eq word (codes "-V")

-- the whole numbers that an option's value writes
abbrev pub unsigned : Option (List ℕ) → Option ℕ
unsigned value = option_map (λ text. digits_value 10 (without_leading_plus text)) value

abbrev pub signed : Option (List ℕ) → Option ℤ
signed value = option_map (signed_digits_value 10) value

-- a value as a list of none or one
abbrev pub option_items : Option (List ℕ) → List (List ℕ)
option_items None = []
option_items (Some text) = text ∷ []

-- where files are, by the texts of --dir and --prefix: in a bundle where one of them is not there
abbrev pub IsSource : Option (List ℕ) → Option (List ℕ) → Source → Type 0
IsSource dir prefix source.Bundle = (dir ≡ None) ⊎ (prefix ≡ None)
IsSource dir prefix (source.Folder place) = (dir ≡ Some place.folder) × (prefix ≡ Some place.prefix)

-- the snapshot, by the texts of --ref and --snapshot: the current one where neither is there
abbrev pub IsTarget : Option (List ℕ) → Option (List ℕ) → Target → Type 0
IsTarget name id target.Main = (name ≡ None) × (id ≡ None)
IsTarget name id (target.Ref wanted) = name ≡ Some wanted
IsTarget name id (target.Snapshot wanted) = (name ≡ None) × (signed id ≡ Some wanted)

-- the snapshot, by a text that names it: the current one where there is none
abbrev pub IsNamed : Option (List ℕ) → Target → Type 0
IsNamed text target.Main = text ≡ None
IsNamed text (target.Ref name) = text ≡ Some name
IsNamed text (target.Snapshot id) = signed text ≡ Some id

-- the part, by the texts of --only and --without
abbrev pub IsPart : Option (List ℕ) → Option (List ℕ) → Part → Type 0
IsPart only without part.All = (only ≡ None) × (without ≡ None)
IsPart only without (part.Only snapshots) = only ≡ Some snapshots
IsPart only without (part.Without snapshots) = (only ≡ None) × (without ≡ Some snapshots)

-- the form, by the text of --format
abbrev pub format_by : Option (List ℕ) → Format
format_by (Some name) = if bytes_eq name (codes "json") then format.Json else format.Text
format_by None = format.Text

-- what is told of a table in a folder: by `--all` each metadata file, else words, by `--null` set apart with a NUL
abbrev pub located_by : Bool → Bool → Located
located_by is_all is_null =
    if is_all then located.All
    else if is_null then located.Newest separator.Nul
    else located.Newest separator.Space

-- the number of workers, by the text of --workers
abbrev pub workers_by : Option (List ℕ) → ℕ
workers_by value = unwrap_or (unsigned value) 1

abbrev pub source_of : Lists → Source
source_of (lists.Bundle list) = source.Bundle
source_of (lists.Folder place list) = source.Folder place

abbrev pub list_of : Lists → Option (List ℕ)
list_of (lists.Bundle list) = list
list_of (lists.Folder place list) = Some list

-- the name of the command that commits this
abbrev pub name_of : ChangeKind → List ℕ
name_of kind.Append = codes "append"
name_of kind.RowDelta = codes "row-delta"

-- the name of the command that asks for this under a relaxed filter
abbrev pub relaxed_name : Relaxed → List ℕ
relaxed_name relaxed.Plan = codes "plan"
relaxed_name relaxed.Explanation = codes "explain"

-- the name of a command
abbrev pub command_name : Command → List ℕ
command_name (command.ListPlan lists form) = codes "list-plan"
command_name (command.Plan from request form workers path) = codes "plan"
command_name (command.Commit from request) = name_of request.kind
command_name (command.Show from form path) = codes "show"
command_name (command.Locate folder told) = codes "locate"
command_name (command.Columns from of form path) = codes "columns"
command_name (command.Audit from of form workers path) = codes "audit"
command_name (command.AuditAll from form workers path) = codes "audit"
command_name (command.Explain from request form workers path) = codes "explain"
command_name (command.Relaxed what from request form workers path) = relaxed_name what
command_name (command.Changes from request form workers path) = codes "changes"
command_name (command.Reachable from part form path) = codes "reachable"
command_name (command.Orphans place older form path) = codes "orphans"
command_name (command.Take from asked share workers path) = codes "take"
command_name (command.Join states) = codes "join"
command_name (command.Finish from asked states form workers path) = codes "finish"
command_name (command.Drill drill) = codes "drill"
command_name (command.Text text) = codes "help"

module _ (words : List (List ℕ)) where
  -- the plain words are this name and this path
  abbrev pub Names : List ℕ → List ℕ → Type 0
  Names name path = plain_words words ≡ name ∷ path ∷ []

  abbrev pub HasSource : Source → Type 0
  HasSource from = IsSource (option_in words (codes "--dir")) (option_in words (codes "--prefix")) from

  abbrev pub HasTarget : Target → Type 0
  HasTarget of = IsTarget (option_in words (codes "--ref")) (option_in words (codes "--snapshot")) of

  abbrev pub HasRequest : Request → Type 0
  HasRequest request = HasTarget request.target × (option_in words (codes "--filter") ≡ request.filter)

  abbrev pub HasPart : Part → Type 0
  HasPart part = IsPart (option_in words (codes "--only")) (option_in words (codes "--without")) part

  abbrev pub HasFormat : Format → Type 0
  HasFormat form = form ≡ format_by (option_in words (codes "--format"))

  -- one of the words is this one
  abbrev pub has_word : List ℕ → Bool
  has_word wanted = list_any (λ word. bytes_eq word wanted) words

  -- it is one of them just where it is asked
  abbrev pub IsFlagged : List ℕ → Bool → Type 0
  IsFlagged wanted asked = asked ≡ has_word wanted

  -- the plan of the snapshot that the option of this name names, under the filter
  abbrev pub HasNamedPlan : List ℕ → Request → Type 0
  HasNamedPlan name request = (option_in words (codes "--filter") ≡ request.filter)
      × IsNamed (option_in words name) request.target

  -- a word asks for a relaxed filter, or none does
  abbrev pub IsRelaxed : Bool → Type 0
  IsRelaxed = IsFlagged (codes "--relax")

  -- a word asks for all snapshots, or none does
  abbrev pub IsOfAll : Bool → Type 0
  IsOfAll = IsFlagged (codes "--all")

  abbrev pub HasAppends : Bool → Type 0
  HasAppends = IsFlagged (codes "--appends")

  -- the plans of --from and --to, and whether each snapshot between has to be an append
  pub record HasChanges (request : ChangesRequest) : Type 0 where
    pub earlier : HasNamedPlan (codes "--from") request.earlier
    pub later : HasNamedPlan (codes "--to") request.later
    pub appends : HasAppends request.appends

  abbrev pub HasLocated : Located → Type 0
  HasLocated told = told ≡ located_by (has_word (codes "--all")) (has_word (codes "--null"))

  abbrev pub HasWorkers : ℕ → Type 0
  HasWorkers workers = workers ≡ workers_by (option_in words (codes "--workers"))

  -- the plan that is asked for, under its filter as it stands or relaxed
  abbrev pub HasAsked : Asked → Type 0
  HasAsked asked = HasRequest asked.request × IsRelaxed asked.relaxed

  -- --part is the share's number, a slash, and how many shares there are
  abbrev pub HasShare : Share → Type 0
  HasShare share = (text : List ℕ) × (option_in words (codes "--part") ≡ Some text)
      × (unsigned (Some (before_first is_slash text)) ≡ Some share.number)
      × (unsigned (Some (after_first is_slash text)) ≡ Some share.count)

  pub record HasIds (ids : Ids) : Type 0 where
    pub snapshot : signed (option_in words (codes "--snapshot-id")) ≡ Some ids.snapshot
    pub uuid : option_and_then parsed (option_in words (codes "--uuid")) ≡ Some ids.uuid
    pub now_ms : signed (option_in words (codes "--now-ms")) ≡ Some ids.now_ms

  pub record HasCommit (request : CommitRequest) : Type 0 where
    pub plain : plain_words words ≡ name_of request.kind ∷ request.metadata ∷ request.change ∷ []
    pub ids : HasIds request.ids
    pub out : option_in words (codes "--out") ≡ Some request.out

  pub record HasDrill (drill : Drill) : Type 0 where
    pub plain : plain_words words ≡ codes "drill" ∷ []
    pub threads : unsigned (option_in words (codes "--threads")) ≡ Some drill.threads
    pub commits : unsigned (option_in words (codes "--commits")) ≡ Some drill.commits

  -- The words ask for this command: its name is the first plain word, its paths are the others, and each option has the
  -- value that the words give it. A text is one of help or the version, and a word asks for it.
  abbrev pub AsksFor : Command → Type 0
  AsksFor (command.ListPlan lists form) =
      (plain_words words ≡ codes "list-plan" ∷ option_items (list_of lists)) × HasSource (source_of lists)
      × HasFormat form
  AsksFor (command.Plan from request form workers path) =
      Names (codes "plan") path × HasSource from × HasRequest request × HasFormat form × HasWorkers workers
      × IsRelaxed false
  AsksFor (command.Commit from request) = HasCommit request × HasSource from
  AsksFor (command.Show from form path) = Names (codes "show") path × HasSource from × HasFormat form
  AsksFor (command.Locate folder told) = Names (codes "locate") folder × HasLocated told
  AsksFor (command.Columns from of form path) =
      Names (codes "columns") path × HasSource from × HasTarget of × HasFormat form
  AsksFor (command.Audit from of form workers path) =
      Names (codes "audit") path × HasSource from × HasTarget of × HasFormat form × HasWorkers workers × IsOfAll false
  AsksFor (command.AuditAll from form workers path) =
      Names (codes "audit") path × HasSource from × HasFormat form × HasWorkers workers × IsOfAll true
  AsksFor (command.Explain from request form workers path) =
      Names (codes "explain") path × HasSource from × HasRequest request × HasFormat form × HasWorkers workers
      × IsRelaxed false
  AsksFor (command.Relaxed what from request form workers path) =
      Names (relaxed_name what) path × HasSource from × HasRequest request × HasFormat form × HasWorkers workers
      × IsRelaxed true
  AsksFor (command.Changes from request form workers path) =
      Names (codes "changes") path × HasSource from × HasChanges request × HasFormat form × HasWorkers workers
  AsksFor (command.Reachable from part form path) =
      Names (codes "reachable") path × HasSource from × HasPart part × HasFormat form
  AsksFor (command.Orphans place older form path) = Names (codes "orphans") path × HasSource (source.Folder place)
      × (unsigned (option_in words (codes "--older-than-ms")) ≡ Some older) × HasFormat form
  AsksFor (command.Take from asked share workers path) =
      Names (codes "take") path × HasSource from × HasAsked asked × HasShare share × HasWorkers workers
  AsksFor (command.Join states) = plain_words words ≡ codes "join" ∷ states.paths
  AsksFor (command.Finish from asked states form workers path) =
      (plain_words words ≡ codes "finish" ∷ path ∷ states.paths) × HasSource from × HasAsked asked × HasFormat form
      × HasWorkers workers
  AsksFor (command.Drill drill) = HasDrill drill
  AsksFor (command.Text text) = list_any asks_help words ≡ true
