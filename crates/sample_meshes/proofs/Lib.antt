mod BlockRoom
mod ListedLaws
