mod Lint
