-- The text that tells people which words are understood.
use Rattle.std.specs.Prelude.{ℕ, List, ◌++◌, codes}

-- One line for each list of words.
abbrev pub usage_text : List ℕ
usage_text =
    codes "usage: wsedit init TREE STORE\n"
    ++ codes "usage: wsedit run TREE STORE ROOT [--adopt] [--max-input N]\n"
    ++ codes "usage: wsedit show TREE STORE\n"
