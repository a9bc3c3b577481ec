-- The text of a run's report, and its status. Addresses have eight hexadecimal digits, the address of a
-- load that failed has sixteen; counts are decimal. The report of an image for several harts tells of which it
-- speaks.
use Rattle.std.specs.Prelude.{ℕ, ◌+◌, List, [], ◌∷◌, ◌++◌, codes, length}
use Rattle.std.specs.Fmt.{decimal}
use Rattle.std.specs.List.{flat_map}
use Rattle.rv_image.specs.declared.version.ImageVersion.{ImageVersion}
use Rattle.rv_image.specs.declared.version.ImageVersion.TheVariants.{OneHart, EightHarts}
use Rattle.cfi_step.specs.declared.report.Handler.{Handler}
use Rattle.cfi_step.specs.declared.report.Handler.TheVariants.{BadTarget, BadReturn, Deep}
use Rattle.cfi_step.specs.declared.report.RunEnd.{RunEnd}
use Rattle.cfi_step.specs.declared.report.RunEnd.TheVariants as ends
use Rattle.cfi_step.specs.declared.report.HartWalk.{HartWalk}
use Rattle.cfi_step.specs.declared.report.RunReport.{RunReport}
use Rattle.text_lines.specs.Hex.{hex_text}

abbrev pub handler_name : Handler → List ℕ
handler_name BadTarget = codes "__cfi_bad_target"
handler_name BadReturn = codes "__cfi_bad_return"
handler_name Deep = codes "__cfi_deep"

abbrev pub end_text : RunEnd → List ℕ
end_text (ends.Exit status) = codes "exit " ++ decimal status
end_text (ends.Handler handler) = codes "handler " ++ handler_name handler
end_text (ends.Break pc) = codes "break " ++ hex_text 8 pc
end_text (ends.LoadFault pc address) = codes "load " ++ hex_text 8 pc ++ codes " " ++ hex_text 16 address
end_text ends.Limit = codes "limit"

-- the addresses of the trail, each after a space
abbrev pub trail_text : List ℕ → List ℕ
trail_text trail = flat_map (λ address. codes " " ++ hex_text 8 address) trail

-- the walk of the one hart of an image of version 1
abbrev pub walk_text : HartWalk → List ℕ
walk_text w = codes "walk " ++ decimal w.walk ++ codes "\ntrail" ++ trail_text w.trail ++ codes "\n"

abbrev pub walks_text : List HartWalk → List ℕ
walks_text walks = flat_map walk_text walks

-- the walk of hart `k`, and those of the harts from `k` on
abbrev pub hart_walk_text : ℕ → HartWalk → List ℕ
hart_walk_text k w =
    codes "walk " ++ decimal k ++ codes " " ++ decimal w.walk ++ codes "\ntrail " ++ decimal k ++ trail_text w.trail ++ codes "\n"

unfoldable pub hart_walks_text : ℕ → List HartWalk → List ℕ
hart_walks_text k [] = []
hart_walks_text k (w ∷ walks) = hart_walk_text k w ++ hart_walks_text (k + 1) walks

-- how the run of several harts stopped, and by which
abbrev pub stop_text : ℕ → RunEnd → List ℕ
stop_text hart ends.Limit = end_text ends.Limit
stop_text hart other = codes "hart " ++ decimal hart ++ codes " " ++ end_text other

-- what stands before the output, and after it up to the walks, by the image's version
abbrev pub report_head : RunReport → List ℕ
report_head report = codes "output " ++ decimal (length report.output) ++ codes "\n"

abbrev pub stop_lines : ImageVersion → RunReport → List ℕ
stop_lines OneHart report = codes "\nstop " ++ end_text report.end
stop_lines EightHarts report =
    codes "\nharts " ++ decimal (length report.walks) ++ codes "\nstop " ++ stop_text report.hart report.end

abbrev pub steps_line : RunReport → List ℕ
steps_line report = codes "\nsteps " ++ decimal report.steps ++ codes "\n"

abbrev pub walk_lines : ImageVersion → List HartWalk → List ℕ
walk_lines OneHart walks = walks_text walks
walk_lines EightHarts walks = hart_walks_text 0 walks

abbrev pub report_text : ImageVersion → RunReport → List ℕ
report_text version report =
    report_head report ++ report.output ++ stop_lines version report ++ steps_line report ++ walk_lines version report.walks

abbrev pub end_status : RunEnd → ℕ
end_status (ends.Exit status) = 0
end_status (ends.Handler handler) = 10
end_status (ends.Break pc) = 11
end_status (ends.LoadFault pc address) = 11
end_status ends.Limit = 12
