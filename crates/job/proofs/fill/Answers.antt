use Prim.Native.Nat.{ℕ, ◌+◌}
use Rattle.wordbytes.specs.Words.{word_at}
use Rattle.job.proofs.Laws.{map-filled, image-filled, lines-filled, words-at, lines-at, read-only-at}
use mathlib.Core.Path.{ap, ◌∙◌}
use borrow.Author.Rules.{rules}
use Rattle.job.proofs.fill.Goals as goal

pub mark_pages-requires-2 : goal.mark_pages-requires-2
mark_pages-requires-2 c = (search rules, c.mark_pages.ensures.1)

pub returns : goal.returns
returns c = let input = c.args.input.now in
    let pages = c.word_at-pages.result in
    let at = words-at input pages c.word_at-pages.ensures in
    let on = lines-at input (2 + pages) c.word_at-words.result at c.word_at-words.ensures in
    let last = read-only-at input _ c.word_at-count.result on c.word_at-count.ensures in
    record {
      image-is = image-filled input c.args.image.now _ _ (2 + pages) _ c.requires.bytes (c.fill-2.ensures.after (λ y e. e)) at c.word_at-words.ensures c.store_words.ensures;
      map_is = map-filled input c.args.map.now _ _ _ _ _ _ c.requires.pages (c.fill.ensures.after (λ y e. e)) c.word_at-pages.ensures c.mark_pages.ensures.0 last c.word_at-read_only.ensures c.mark_pages-2.ensures.0;
      lines-is = lines-filled input c.args.lines.now _ _ _ _ c.requires.words (c.fill-3.ensures.after (λ y e. e)) on c.word_at-count.ensures c.list_lines.ensures;
      count-is = c.word_at-count.ensures ∙ ap (λ (x : ℕ). word_at input x) on;
    }
