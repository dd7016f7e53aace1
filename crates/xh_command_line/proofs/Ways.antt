-- Which way words go.
use Rattle.std.proofs.Common.{◌≡◌, ◌∙◌, Bool, true, false, List, [], ℕ, Some, codes, inl, inr, subst}
use Rattle.clap.proofs.WalkLemmas.{one_text-rows}
use Rattle.clap.specs.Words.{HasKind, IsAmong, Text, kind_of, one_text, rows_of}
use Rattle.clap.specs.declared.error.Error.{Error}
use Rattle.clap.specs.declared.error.kind.ErrorKind.TheVariants.{DisplayHelp, DisplayVersion, OutOfMemory}
use Rattle.clap.specs.declared.parser.matches.Found.{Found}
use Rattle.xh_command_line.specs.Asked.{AskRun, HasLimits, HasOptions, faults, rows_found}
use Rattle.xh_command_line.specs.Unasked.{IsUnasked}
use Rattle.xh_command_line.specs.inner.Args.{IsExplained}
use Rattle.xh_model.specs.declared.config.Config.{Config}
use Rattle.xh_script.specs.Config.{IsScriptConfig}
use Rattle.xh_script.specs.declared.streams.Watched.{Watched}

-- an error that clap tells
pub told : {W : Type 0} (name : Text) (words : List Text) (e : Error) (out out' : Watched W) (status : ℕ)
    → HasKind (faults name words) e → IsExplained (kind_of e) out out' status → IsUnasked name words out out' status
told name words e out out' status has is = elim is [
  | inl text ↦ inl (
    text.0,
    elim text.1 [
      | inl help ↦ inl (elim has [ inl lack ↦ cc | inr among ↦ subst (λ k. IsAmong k (faults name words)) help among ])
      | inr version ↦ inr (elim has [ inl lack ↦ cc | inr among ↦ subst (λ k. IsAmong k (faults name words)) version among ])
    ],
  )
  | inr none ↦ inr (
    none.0,
    elim none.1 [
      | inl memory ↦ inr memory
      | inr wrong ↦ inl (
        wrong.0,
        elim has [
          | inl lack ↦ absurd (wrong.1 lack)
          | inr among ↦ inl (kind_of e, among, wrong.2, wrong.3)
        ],
      )
    ],
  )
]

-- the text of a flag
abbrev Tells : Found → Text → Bool → Type 0
Tells f id set = (one_text f id ≡ Some (codes "true") → set ≡ true) × (one_text f id ≡ Some (codes "false") → set ≡ false)

-- what clap found asks for a run
pub asked : (name : Text) (words : List Text) (f : Found) (config : Config) (serial flight : Bool) → faults name words ≡ [] → rows_of f ≡ rows_found name words
    → Tells f (codes "serial") serial → Tells f (codes "flight") flight → HasLimits (rows_of f) config → IsScriptConfig config
    → AskRun name words (record { config = config; serial = serial; flight = flight })
asked name words f config serial flight none is one other limits ok = (
  none,
  subst (λ rows. HasOptions rows (record { config = config; serial = serial; flight = flight })) is (
    ((λ e. one.0 (one_text-rows f (codes "serial") ∙ e)), (λ e. one.1 (one_text-rows f (codes "serial") ∙ e))),
    ((λ e. other.0 (one_text-rows f (codes "flight") ∙ e)), (λ e. other.1 (one_text-rows f (codes "flight") ∙ e))),
    limits,
    ok,
  ),
)
