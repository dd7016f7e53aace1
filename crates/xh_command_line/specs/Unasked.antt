-- How a program ends whose words ask for no run.
use Rattle.std.specs.Prelude.{◌≡◌, ◌⊎◌, ℕ, List}
use Rattle.clap.specs.Walk.{Text}
use Rattle.xh_command_line.specs.Asked.{AreWrong, AskText}
use Rattle.xh_script.specs.declared.streams.Watched.{Watched}

-- the help or the version that they ask for was printed; or nothing, since they are wrong, or memory was refused
abbrev pub IsUnasked : {W : Type 0} → Text → List Text → Watched W → Watched W → ℕ → Type 0
IsUnasked name words out out' status = ((status ≡ 0) × AskText name words)
    ⊎ ((out' ≡ out) × (((status ≡ 2) × AreWrong name words) ⊎ (status ≡ 3)))
